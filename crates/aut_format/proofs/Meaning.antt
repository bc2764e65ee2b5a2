use Rattle.std.proofs.Common.{codes, refl}
use Rattle.net_model.specs.Written.{IsTextName}

-- `solution` can be the name of a model
pub solution_is_name : IsTextName (codes "solution")
solution_is_name = record { word = refl; name_is = refl }
