-- What bits spell at the levels of a frame: a joint letter, and its parts.
use Rattle.std.specs.Prelude.{◌≡◌}
use Rattle.node_table.specs.Table.{Bits}
use Rattle.bdd_ops.specs.Levels.{SameAt}
use Rattle.mv_encoding.specs.Layouts.{numbers_of, levels_of}
use Rattle.mv_encoding.specs.Spots.{spelled}
use Rattle.net_model.specs.Words.{Letter, IsLetter}
use Rattle.net_model.specs.Parts.{letter_part}
use Rattle.net_model.specs.Equation.{Topology}
use Rattle.net_frame.specs.Frames.{Frame}

-- The letters of F, S and X are the parts of the joint letter. Values at the letters of F and of S make a joint letter, and
-- each joint letter has bits that spell it. Bits that spell one letter of X are the same at its levels.
pub record SpellsParts (topology : Topology) (frame : Frame) : Type 0 where
  pub f_part : (bits : Bits) → spelled frame.f.letters bits ≡ letter_part topology.joint topology.f (spelled frame.joint bits)
  pub s_part : (bits : Bits) → spelled frame.s.letters bits ≡ letter_part topology.joint topology.s (spelled frame.joint bits)
  pub x_part : (bits : Bits) → numbers_of frame.x bits ≡ letter_part topology.joint topology.x (spelled frame.joint bits)
  pub is_joint : (bits : Bits) → IsLetter topology.f (spelled frame.f.letters bits) → IsLetter topology.s (spelled frame.s.letters bits) → IsLetter topology.joint (spelled frame.joint bits)
  pub is_s : (bits : Bits) → IsLetter topology.joint (spelled frame.joint bits) → IsLetter topology.s (spelled frame.s.letters bits)
  pub codes : (letter : Letter) → IsLetter topology.joint letter → (bits : Bits) × (spelled frame.joint bits ≡ letter)
  pub x_code : (u v : Bits) → numbers_of frame.x u ≡ numbers_of frame.x v → SameAt (levels_of frame.x) u v
