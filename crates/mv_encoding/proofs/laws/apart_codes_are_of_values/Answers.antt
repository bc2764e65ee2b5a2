use Rattle.mv_encoding.proofs.Apart.{written, spelled-same, spelled-back, values-test}
use Rattle.mv_encoding.proofs.laws.apart_codes_are_of_values.Goals as goal

pub returns-clause-each : goal.returns-clause-each
returns-clause-each c = written

pub returns-clause-one : goal.returns-clause-one
returns-clause-one c spots are u v = (spelled-back spots are u v, spelled-same spots are u v)

pub returns-clause-letters : goal.returns-clause-letters
returns-clause-letters c = values-test
