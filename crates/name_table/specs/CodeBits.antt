use Rattle.std.specs.Prelude.{◌^◌, ◌+◌, ℕ, zero, suc, nat_le, List, [], ◌∷◌, length, if◌then◌else◌}
use Rattle.name_table.specs.Variables.{Variable}

-- the bits of a code of n values: the least number b with n ≤ 2 ^ b
abbrev pub code_bits : ℕ → ℕ
code_bits zero = 0
code_bits (suc n) = if nat_le (suc n) (2 ^ code_bits n) then code_bits n else suc (code_bits n)

-- the bits of the code of a variable
abbrev pub bits_of : Variable → ℕ
bits_of v = code_bits (length v.values)

-- the bits of the codes of all the variables
abbrev pub bits_in : List Variable → ℕ
bits_in [] = 0
bits_in (v ∷ vars) = bits_of v + bits_in vars
