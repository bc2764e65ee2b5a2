use Rattle.std.proofs.Common.{rules, inl, inr}
use Rattle.io_core.specs.Memory.{sink_state, FailsPut}
use Rattle.io_core.proofs.mem_sink.MemSinkSink.put.Goals.{then-contains-via-then-contains, then-contains-via-else-contains+then-self-len}
use Rattle.io_core.proofs.mem_sink.MemSinkSink.put.Goals as goal

pub returns-then-contains-clause-exact : goal.returns-then-contains-clause-exact
returns-then-contains-clause-exact c =
    let fails : FailsPut (sink_state c.args.self.now) = elim c.then-contains.branch [ then-contains-via-then-contains w ↦ inl (search rules) | then-contains-via-else-contains+then-self-len w ↦ inr (search rules) ] in
    (fails, search rules)
