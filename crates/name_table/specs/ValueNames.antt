use Rattle.std.specs.Prelude.{ℕ, List}
use Rattle.name_table.specs.declared.value_name.Bytes.{Bytes}
use Rattle.name_table.specs.declared.value_name.Bytes.TheVariants.{Kept, Number}

-- the bytes of a name, kept or a number's
abbrev pub bytes_told : Bytes → List ℕ
bytes_told (Kept name) = name.now
bytes_told (Number digits) = digits.bytes
