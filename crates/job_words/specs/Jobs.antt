use Rattle.std.specs.Prelude.{◌≡◌, ◌<◌, ◌==◌, ℕ, List, length, map}
use Rattle.std.specs.List.{AllByRecursion, slice_split}
use Rattle.job_words.specs.Words.{solve_words}
use Rattle.job_words.specs.declared.request.Request.{Request}

-- What the words ask for: the names of F's and of S's file, and the names of X's inputs and outputs.
pub record Job : Type 0 where
  pub f : List ℕ
  pub s : List ℕ
  pub ins : List (List ℕ)
  pub outs : List (List ℕ)

-- the word is these names, separated by commas, none of them empty
abbrev pub IsNameList : List ℕ → List (List ℕ) → Type 0
IsNameList word names = (names ≡ slice_split (λ b. b == 44) word) × AllByRecursion (λ name. 0 < length name) names

-- the words name this job
abbrev pub IsJob : List (List ℕ) → Job → Type 0
IsJob words job =
    (ins : List ℕ)
    × (outs : List ℕ)
    × (words ≡ solve_words job.f job.s ins outs)
    × IsNameList ins job.ins
    × IsNameList outs job.outs

-- the words name no job
abbrev pub HasNoJob : List (List ℕ) → Type 0
HasNoJob words = (job : Job) → IsJob words job → ⊥

-- the job that a request has read
abbrev pub job_of : Request → Job
job_of request = record {
  f = request.f.now;
  s = request.s.now;
  ins = map (λ name. name.now) request.ins.items;
  outs = map (λ name. name.now) request.outs.items;
}
