use Rattle.std.proofs.Common.{◌+◌, length, refl}
use Rattle.automata_tests.proofs.Ruling.{enough}
use Rattle.automata_tests.proofs.codes.steps_of.Goals as goal

pub encode-requires-clause-enough : goal.encode-requires-clause-enough
encode-requires-clause-enough c = (
  enough (length c.args.det.now) c.args.bits 3 c.in_ok-present.present c.in_ok-present.ensures.is (c.if-not-have_bits.ensures refl),
  enough (length c.args.det.now) c.args.bits (3 + c.args.bits) c.in_ok-next.next c.in_ok-next.ensures.is (c.if-not-have_bits.ensures refl),
)
