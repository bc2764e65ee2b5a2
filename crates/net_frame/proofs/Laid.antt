-- The levels of all letters exist.
use Rattle.std.proofs.Common.{◌≡◌, ◌+◌, ◌≤◌, ◌⊎◌, inl, inr, ℕ, true, nat_eq, List, [], map, length, get_or, Option, Some, None, refl, sym, subst, arith}
use Rattle.std.specs.Prelude.{unwrap_or}
use Rattle.std.specs.Option.{option_map}
use Rattle.std.specs.List.{list_any, range_with_len}
use Rattle.std.proofs.lemmas.Bool.{cases_lt}
use Rattle.std.proofs.lemmas.List.{get_or_past}
use Rattle.std.proofs.lemmas.List.Elements.{All-map, All-weaker, All-from_recursion}
use Rattle.name_table.specs.CodeBits.{bits_in}
use Rattle.node_table.specs.Table.{Table}
use Rattle.net_model.specs.NetLanguages.{letter_signals}
use Rattle.net_model.specs.Outlines.{outline}
use Rattle.net_model.specs.Problems.{File, Problem, IsBuilt}
use Rattle.net_model.specs.declared.class.Mode.{Mode}
use Rattle.net_model.specs.declared.class.Mode.TheVariants.{Sync, Parallel}
use Rattle.net_model.specs.declared.refusal.Slot.{Slot}
use Rattle.net_model.specs.declared.refusal.Slot.TheVariants.{F, S, X}
use Rattle.mv_encoding.specs.Layouts.{Layout, IsLaid}
use Rattle.mv_encoding.specs.Sets.{layout_of}
use Rattle.mv_encoding.specs.Spots.{AreLaid, spot_at}
use Rattle.mv_encoding.proofs.Places.{before-within}
use Rattle.net_problem.specs.ProblemBits.{joint_bits, file_bits, problem_bits}
use Rattle.net_frame.specs.Placing.{FileSpots}
use Rattle.net_frame.specs.Frames as frames
use Rattle.net_frame.specs.Frames.{signal_spot, file_spots, joint_of, frame_of, bare_letters, bare_spots, spots_in, IsFilePlaced, FitsProblem}
use Rattle.net_frame.proofs.Among.{each-weaker}
use Rattle.net_frame.proofs.Grounds.{grounds, joint-ends}
use Rattle.net_frame.proofs.JointLevels.{EndsBelow}
use Rattle.net_frame.proofs.LetterSpots.{letter-is, all-among}
use Rattle.net_frame.proofs.OwnPlaces.{ends-laid}
use Rattle.net_frame.proofs.Pairwise.{all-range}

mode-cases : (mode : Mode) → (mode ≡ Sync) ⊎ (mode ≡ Parallel)
mode-cases Sync = inl refl
mode-cases Parallel = inr refl

-- a code without a place has no bits
laid-at : (t : Table) (spots : List Layout) → AreLaid t spots → (k : ℕ) → IsLaid (spot_at spots k) t
laid-at t spots laid k =
    elim (cases_lt k (length spots)) [
      | inl below ↦ laid k (record { scope = []; first = 0 }) below
      | inr above ↦ subst (λ (spot : Layout). IsLaid spot t) (sym (get_or_past spots k (record { scope = []; first = 0 }) above)) (λ i below. absurd (omega (arith, below)))
    ]

placed-laid : (t : Table) (file : File) (spots : FileSpots) → IsFilePlaced t file spots → AreLaid t spots.letters
placed-laid t file spots placed =
    let net = outline file in
    subst (λ (letters : List Layout). AreLaid t letters) (sym placed.letters)
    (All-map (λ spot. IsLaid spot t) (spot_at spots.signals) (letter_signals net) (λ i d within. laid-at t spots.signals placed.signals_laid (get_or (letter_signals net) i d)))

act-laid : (t : Table) (joint : List Layout) (start : ℕ) (file : File) → AreLaid t joint → AreLaid t (file_spots Parallel joint start file).letters
act-laid t joint start file laid =
    let net = outline file in
    All-map (λ spot. IsLaid spot t) (signal_spot Parallel joint net start) (letter_signals net)
    (All-from_recursion (λ s. IsLaid (signal_spot Parallel joint net start s) t) (letter_signals net)
    (each-weaker (λ s. list_any (nat_eq s) (letter_signals net) ≡ true) (λ s. IsLaid (signal_spot Parallel joint net start s) t)
    (λ s is. subst (λ (spot : Layout). IsLaid spot t) (sym (letter-is Parallel joint net start s is)) (laid-at t joint laid 0))
    (letter_signals net) (all-among (letter_signals net))))

x-laid : (t : Table) (x : Layout) (end : ℕ) → end ≤ t.levels → x.first + bits_in x.scope ≤ end → AreLaid t (map (layout_of x) (range_with_len 0 (length x.scope)))
x-laid t x end room ends =
    all-range (λ spot. IsLaid spot t) (layout_of x) (length x.scope)
    (λ var known. let within = before-within x.scope var known in ends-laid t end (layout_of x var) room (omega (arith, within, ends)))

bare-laid : (t : Table) (mode : Mode) (x : Layout) (joint : List Layout) (end : ℕ) → end ≤ t.levels → x.first + bits_in x.scope ≤ end → AreLaid t joint → AreLaid t (bare_letters mode x joint)
bare-laid t Sync x joint end room ends laid = x-laid t x end room ends
bare-laid t Parallel x joint end room ends laid = laid

-- the frame of a problem

joint-laid : (t : Table) (first : ℕ) (problem : Problem) → IsBuilt problem → first + joint_bits problem.topology ≤ t.levels → AreLaid t (joint_of problem.topology first)
joint-laid t first problem built room =
    All-weaker (EndsBelow (first + joint_bits problem.topology)) (λ spot. IsLaid spot t)
    (λ spot ends. ends-laid t (first + joint_bits problem.topology) spot room ends) (joint_of problem.topology first) (joint-ends problem.topology first (grounds problem built))

-- of a file that is placed in synchronous mode, and has the joint letters in parallel mode
file-laid : (t : Table) (mode : Mode) (joint : List Layout) (start : ℕ) (file : File) → AreLaid t joint → (mode ≡ Sync → IsFilePlaced t file (file_spots mode joint start file)) → AreLaid t (file_spots mode joint start file).letters
file-laid t mode joint start file laid placed =
    elim (mode-cases mode) [
      | inl sync ↦ placed-laid t file (file_spots mode joint start file) (placed sync)
      | inr parallel ↦ subst (λ (m : Mode). AreLaid t (file_spots m joint start file).letters) (sym parallel) (act-laid t joint start file laid)
    ]

third-laid : (t : Table) (mode : Mode) (joint : List Layout) (x : Layout) (start end : ℕ) (third : Option File) → AreLaid t joint → end ≤ t.levels → x.first + bits_in x.scope ≤ end → (mode ≡ Sync → (file : File) (spots : FileSpots) → third ≡ Some file → option_map (file_spots mode joint start) third ≡ Some spots → IsFilePlaced t file spots) → AreLaid t (unwrap_or (option_map (file_spots mode joint start) third) (bare_spots mode x joint)).letters
third-laid t mode joint x start end None laid room ends placed = bare-laid t mode x joint end room ends laid
third-laid t mode joint x start end (Some file) laid room ends placed =
    file-laid t mode joint start file laid (λ sync. placed sync file (file_spots mode joint start file) refl refl)

laid-by : (t : Table) (first : ℕ) (problem : Problem) (third : Option File) → IsBuilt problem → FitsProblem t problem third (frame_of first problem third) → first + problem_bits problem third ≤ t.levels → (slot : Slot) → AreLaid t (spots_in (frame_of first problem third) slot).letters
laid-by t first problem third built fits exist F =
    file-laid t problem.topology.mode (joint_of problem.topology first) (first + joint_bits problem.topology) problem.f (joint-laid t first problem built (omega (arith, exist))) fits.f
laid-by t first problem third built fits exist S =
    file-laid t problem.topology.mode (joint_of problem.topology first) (first + joint_bits problem.topology + file_bits problem.f) problem.s (joint-laid t first problem built (omega (arith, exist))) fits.s
laid-by t first problem third built fits exist X =
    let few = (grounds problem built).x_few in
    third-laid t problem.topology.mode (joint_of problem.topology first) (record { scope = problem.topology.x; first = first }) (first + joint_bits problem.topology + file_bits problem.f + file_bits problem.s) (first + joint_bits problem.topology) third
    (joint-laid t first problem built (omega (arith, exist))) (omega (arith, exist)) (omega (arith, few)) fits.third_placed

pub letters-laid : (t : Table) (problem : Problem) (third : Option File) (frame : frames.Frame) → IsBuilt problem → FitsProblem t problem third frame → (slot : Slot) → AreLaid t (spots_in frame slot).letters
letters-laid t problem third frame built fits slot =
    let at : FitsProblem t problem third (frame_of fits.first problem third) = subst (λ (other : frames.Frame). FitsProblem t problem third other) fits.is fits in
    subst (λ (other : frames.Frame). AreLaid t (spots_in other slot).letters) (sym fits.is)
    (laid-by t fits.first problem third built at fits.exist slot)
