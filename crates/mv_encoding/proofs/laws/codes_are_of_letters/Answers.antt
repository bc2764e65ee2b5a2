use Rattle.mv_encoding.proofs.Letters.{some-code, one-code, letter-test}
use Rattle.mv_encoding.proofs.laws.codes_are_of_letters.Goals as goal

pub returns-clause-each : goal.returns-clause-each
returns-clause-each c = some-code

pub returns-clause-one : goal.returns-clause-one
returns-clause-one c = one-code

pub returns-clause-letters : goal.returns-clause-letters
returns-clause-letters c = letter-test
