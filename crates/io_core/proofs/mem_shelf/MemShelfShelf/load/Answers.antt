use Rattle.std.proofs.Common.{◌≡◌, ◌<◌, length, rules, arith, sym, ap, ◌∙◌, inl, inr, take, Some, IfOk}
use Rattle.std.proofs.lemmas.Result.{IfOk-weaker}
use Rattle.io_core.specs.Files.{Files, bytes_under}
use Rattle.io_core.specs.Memory.{shelf_state, FailsLoad, named_files, files_of, place_of}
use Rattle.io_core.proofs.Places.{bytes_at_place, contained, length_named}
use Rattle.io_core.proofs.mem_shelf.MemShelfShelf.load.Goals.{then-contains-via-then-contains, then-contains-via-else-contains+then-place-len}
use Rattle.io_core.proofs.mem_shelf.MemShelfShelf.load.Goals as goal

pub returns-then-contains-clause-exact : goal.returns-then-contains-clause-exact
returns-then-contains-clause-exact c =
    let fails : FailsLoad (shelf_state c.args.self.now) c.args.name.now = elim c.then-contains.branch [
      | then-contains-via-then-contains w ↦ inl (rw c.deref-2.ensures.value at (contained c.deref-2.result.now c.args.self.now.loads w.if-contains.ensures.cases))
      | then-contains-via-else-contains+then-place-len w ↦
          let place : c.place_of-place.result ≡ place_of (named_files c.args.self.now.files.items) c.args.name.now = rw c.deref.ensures.value at c.place_of-place.ensures.place in
          inr (sym place ∙ w.if-place-len.true ∙ w.len.ensures ∙ c.args.self.now.files.ok.0 ∙ sym (length_named c.args.self.now.files.items))
    ] in
    (fails, search rules)

pub returns-clause-bytes : goal.returns-clause-bytes
returns-clause-bytes c =
    let entries = c.args.self.now.files.items in
    let name = c.args.name.now in
    let place : c.place_of-place.result ≡ place_of (named_files entries) name = rw c.deref.ensures.value at c.place_of-place.ensures.place in
    let within : c.place_of-place.result < length entries = omega (arith, c.len.ensures, c.args.self.now.files.ok.0, ap length c.deref.ensures.value) in
    let held : c.deref-3.result.now ≡ bytes_under (files_of (named_files entries)) name =
    c.deref-3.ensures.value ∙ ap (λ file. file.1.items) c.index.ensures
    ∙ sym (bytes_at_place entries name c.place_of-place.result c.index.result.now place within) in
    let front : IfOk c.map_err-2.result (λ bytes. bytes.items ≡ take c.args.max c.deref-3.result.now) = search rules in
    IfOk-weaker c.map_err-2.result
    (λ bytes. bytes.items ≡ take c.args.max c.deref-3.result.now)
    (λ bytes. (files : Files) → Some (files_of (named_files entries)) ≡ Some files → bytes.items ≡ take c.args.max (bytes_under files name))
    (λ bytes is files same.
    let same_files : files_of (named_files entries) ≡ files = cc in
    is ∙ ap (take c.args.max) held ∙ ap (λ fs. take c.args.max (bytes_under fs name)) same_files)
    front
