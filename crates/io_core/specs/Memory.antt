use Rattle.std.specs.Prelude.{◌≡◌, ◌≤◌, ◌+◌, ◌-◌, ◌^◌, ◌==◌, ◌⊎◌, ℕ, List, [], ◌∷◌, ◌++◌, length, map, min, take, count_by, String, Vec, string_bytes, Contains, Result, Ok, Err}
use Rattle.std.specs.Str.{bytes_eq}
use Rattle.std.specs.List.{position_or_len}
use Rattle.std.specs.FinMap.{from_entries}
use Rattle.std.specs.declared.alloc.Global.{Global}
use Rattle.io_core.specs.Files.{Files}
use Rattle.io_core.specs.declared.shelf.LoadFault.{LoadFault}
use Rattle.io_core.specs.declared.shelf.LoadFault.TheVariants as load_fault
use Rattle.io_core.specs.declared.sink.SinkFault.{SinkFault}
use Rattle.io_core.specs.declared.sink.SinkFault.TheVariants as sink_fault
use Rattle.io_core.specs.declared.honest_shelf.HonestShelf.{HonestShelf}
use Rattle.io_core.specs.declared.honest_sink.HonestSink.{HonestSink}
use Rattle.io_core.specs.declared.mem_shelf.MemShelf.{MemShelf}
use Rattle.io_core.specs.declared.mem_sink.MemSink.{MemSink}

-- one more, up to the end of a `u64`
abbrev pub next_count : ℕ → ℕ
next_count n = min (n + 1) (2 ^ 64 - 1)

-- names and bytes of files that stand in a list
abbrev pub named_files : List (String Global × Vec ℕ Global) → List (List ℕ × List ℕ)
named_files entries = map (λ f. (string_bytes f.0, f.1.items)) entries

-- the files of such a list by their names; of two with one name the first counts
abbrev pub files_of : List (List ℕ × List ℕ) → Files
files_of files = from_entries files

-- the place of the first file of this name, or the number of files where no file has it
abbrev pub place_of : List (List ℕ × List ℕ) → List ℕ → ℕ
place_of files name = position_or_len (λ f. bytes_eq name f.0) files

-- a shelf in memory: its files, the numbers of the loads that fail, the number of loads so far, and the
-- place of the file of each failed load, which is the number of files for a name that isn't held
pub record ShelfState : Type 0 where
  pub files : List (List ℕ × List ℕ)
  pub failing : List ℕ
  pub loads : ℕ
  pub failed : List ℕ

abbrev pub shelf_state : MemShelf → ShelfState
shelf_state shelf = record {
  files = named_files shelf.files.items;
  failing = shelf.failing.items;
  loads = shelf.loads;
  failed = shelf.failed.items;
}

-- how often a load of this name failed; the names that aren't held share one count
abbrev pub failures_of : ShelfState → List ℕ → ℕ
failures_of shelf name = count_by (λ place. place == place_of shelf.files name) shelf.failed

-- the next load fails if it is this name's
abbrev pub FailsLoad : ShelfState → List ℕ → Type 0
FailsLoad shelf name = Contains shelf.failing shelf.loads ⊎ (place_of shelf.files name ≡ length shelf.files)

-- a load of this name: when it fails, and what it leaves
abbrev pub IsMemLoad : {T : Type 0} → ShelfState → List ℕ → Result T LoadFault → ShelfState → Type 0
IsMemLoad old name (Ok _) new = (FailsLoad old name → ⊥) × (new ≡ record old { loads = next_count old.loads })
IsMemLoad old name (Err load_fault.Failed) new =
    FailsLoad old name
    × (new ≡ record old { loads = next_count old.loads; failed = old.failed ++ place_of old.files name ∷ [] })
IsMemLoad old name (Err load_fault.Memory) new = new ≡ record old { loads = next_count old.loads }

abbrev pub honest_files : HonestShelf → List (List ℕ × List ℕ)
honest_files shelf = named_files shelf.files.items

-- a sink in memory: what it took, its room, the numbers of the calls that fail, and its counts
pub record SinkState : Type 0 where
  pub taken : List ℕ
  pub room : ℕ
  pub failing : List ℕ
  pub calls : ℕ
  pub faults : ℕ
  pub wants : ℕ

abbrev pub sink_state : MemSink → SinkState
sink_state sink = record {
  taken = sink.taken.items;
  room = sink.room;
  failing = sink.failing.items;
  calls = sink.calls;
  faults = sink.faults;
  wants = sink.wants;
}

-- the next call fails
abbrev pub FailsPut : SinkState → Type 0
FailsPut sink = Contains sink.failing sink.calls ⊎ (sink.room ≤ length sink.taken)

-- a put of these bytes: when it fails, how many it takes, and what it leaves
abbrev pub IsMemPut : SinkState → List ℕ → Result ℕ SinkFault → SinkState → Type 0
IsMemPut old bytes (Ok n) new =
    (FailsPut old → ⊥)
    × (n ≡ min (length bytes) (old.room - length old.taken))
    × (new ≡ record old { taken = old.taken ++ take n bytes; calls = next_count old.calls })
IsMemPut old bytes (Err sink_fault.Failed) new =
    FailsPut old × (new ≡ record old { calls = next_count old.calls; faults = next_count old.faults })
IsMemPut old bytes (Err sink_fault.Memory) new =
    new ≡ record old { calls = next_count old.calls; wants = next_count old.wants }

abbrev pub honest_taken : HonestSink → List ℕ
honest_taken sink = sink.bytes.items

abbrev pub honest_wants : HonestSink → ℕ
honest_wants sink = sink.wants

-- a put of these bytes: it takes all of them, or wants memory
abbrev pub IsHonestPut : HonestSink → List ℕ → Result ℕ SinkFault → HonestSink → Type 0
IsHonestPut old bytes (Ok n) new =
    (n ≡ length bytes) × (honest_taken new ≡ honest_taken old ++ bytes) × (honest_wants new ≡ honest_wants old)
IsHonestPut old bytes (Err sink_fault.Failed) new = ⊥
IsHonestPut old bytes (Err sink_fault.Memory) new =
    (honest_taken new ≡ honest_taken old) × (honest_wants new ≡ next_count (honest_wants old))
