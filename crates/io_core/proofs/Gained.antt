use Rattle.std.proofs.Common.{◌≡◌, ℕ, ◌+◌, ◌-◌, ◌≤◌, List, ◌++◌, length, take, drop, Option, Some, None, refl, sym, ap, ◌∙◌, append_assoc, arith, length-append}
use Rattle.std.proofs.Math.Seq.{take-add, take-append-add}
use Rattle.std.proofs.lemmas.List.{take_rest, take-append-le}
use Rattle.io_core.specs.Gained.{gained, GainsFrontOf}

-- to gain two pieces is to gain their join
pub gained_twice : (old : Option (List ℕ)) (first second : List ℕ) → gained (gained old first) second ≡ gained old (first ++ second)
gained_twice None first second = refl
gained_twice (Some had) first second = ap Some (append_assoc had first second)

-- a front of the first piece is a front of the join
pub front_first : (old new : Option (List ℕ)) (first second : List ℕ) → GainsFrontOf old new first → GainsFrontOf old new (first ++ second)
front_first old new first second front =
    let within : front.0 ≤ length first = front.1 in
    (front.0, omega (arith, length-append first second), rw take-append-le front.2)

-- the whole first piece and a front of the second are a front of the join
pub front_second : (old between new : Option (List ℕ)) (first second : List ℕ) → between ≡ gained old first → GainsFrontOf between new second → GainsFrontOf old new (first ++ second)
front_second old between new first second whole front = (
  length first + front.0,
  omega (arith, length-append first second, front.1),
  front.2 ∙ ap (λ had. gained had (take front.0 second)) whole
      ∙ gained_twice old first (take front.0 second)
      ∙ ap (gained old) (sym (take-append-add first second front.0)),
)

-- what is taken of the bytes that are left goes on from what was taken of them so far
pub taken_more : (old had new : Option (List ℕ)) (bytes : List ℕ) (done taken : ℕ) → had ≡ gained old (take done bytes) → new ≡ gained had (take taken (take (length bytes - done) (drop done bytes))) → new ≡ gained old (take (done + taken) bytes)
taken_more old had new bytes done taken so_far more =
    more ∙ ap (λ o. gained o (take taken (take (length bytes - done) (drop done bytes)))) so_far
    ∙ gained_twice old (take done bytes) (take taken (take (length bytes - done) (drop done bytes)))
    ∙ ap (λ rest. gained old (take done bytes ++ take taken rest)) (take_rest bytes done)
    ∙ ap (gained old) (sym (take-add done taken bytes))
