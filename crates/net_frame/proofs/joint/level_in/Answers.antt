use Rattle.std.proofs.Common.{◌≡◌, ◌<◌, ◌+◌, ◌||◌, ◌∙◌, ℕ, true, false, cond, List, length, drop, sym, ap, arith}
use Rattle.std.specs.Str.{bytes_eq}
use Rattle.name_table.specs.CodeBits.{bits_of, bits_in}
use Rattle.name_table.specs.ScopeVars.{variable_at}
use Rattle.net_model.specs.Words.{Scope}
use Rattle.net_model.specs.Topologies.{is_named}
use Rattle.mv_encoding.proofs.Places.{drop-next}
use Rattle.net_frame.specs.Frames as frames
use Rattle.net_frame.proofs.joint.level_in.Goals as goal

-- where the front variable has the name, it is X's, and stands here
here-named : (x : Scope) (var level : ℕ) (name : List ℕ) → var < length x → bytes_eq (variable_at x var).name name ≡ true → is_named (drop var x) name ≡ true
here-named x var level name known is =
    ap (λ scope. is_named scope name) (drop-next x var known) ∙ ap (λ b. b || is_named (drop (var + 1) x) name) is

here-level : (x : Scope) (var level : ℕ) (name : List ℕ) → var < length x → bytes_eq (variable_at x var).name name ≡ true → frames.level_in (drop var x) level name ≡ level
here-level x var level name known is =
    ap (λ scope. frames.level_in scope level name) (drop-next x var known)
    ∙ ap (λ b. cond b level (frames.level_in (drop (var + 1) x) (level + bits_of (variable_at x var)) name)) is

later-named : (x : Scope) (var level : ℕ) (name : List ℕ) → var < length x → bytes_eq (variable_at x var).name name ≡ false → is_named (drop (var + 1) x) name ≡ is_named (drop var x) name
later-named x var level name known is =
    sym (ap (λ scope. is_named scope name) (drop-next x var known) ∙ ap (λ b. b || is_named (drop (var + 1) x) name) is)

later-level : (x : Scope) (var level : ℕ) (name : List ℕ) → var < length x → bytes_eq (variable_at x var).name name ≡ false → frames.level_in (drop (var + 1) x) (level + bits_of (variable_at x var)) name ≡ frames.level_in (drop var x) level name
later-level x var level name known is =
    sym (ap (λ scope. frames.level_in scope level name) (drop-next x var known)
    ∙ ap (λ b. cond b level (frames.level_in (drop (var + 1) x) (level + bits_of (variable_at x var)) name)) is)

pub returns-then-eq-clause-some : goal.returns-then-eq-clause-some
returns-then-eq-clause-some c =
    let known : c.loop-var.var < length c.args.x.now.scope = let size = ap length c.scope-scope.ensures in omega (arith, c.loop-var-test.true, c.len-var-end.ensures.len, size) in
    let is : bytes_eq (variable_at c.args.x.now.scope c.loop-var.var).name c.args.name.now ≡ true = sym (ap (λ found. bytes_eq found c.args.name.now) (c.name_of_variable.ensures ∙ ap (λ scope. (variable_at scope c.loop-var.var).name) c.scope-scope.ensures)) ∙ (sym c.eq.ensures ∙ c.if-eq.true) in
    sym c.loop-var.invariant.named ∙ here-named c.args.x.now.scope c.loop-var.var c.loop-var.level c.args.name.now known is

pub returns-then-eq-clause-level : goal.returns-then-eq-clause-level
returns-then-eq-clause-level c =
    let known : c.loop-var.var < length c.args.x.now.scope = let size = ap length c.scope-scope.ensures in omega (arith, c.loop-var-test.true, c.len-var-end.ensures.len, size) in
    let is : bytes_eq (variable_at c.args.x.now.scope c.loop-var.var).name c.args.name.now ≡ true = sym (ap (λ found. bytes_eq found c.args.name.now) (c.name_of_variable.ensures ∙ ap (λ scope. (variable_at scope c.loop-var.var).name) c.scope-scope.ensures)) ∙ (sym c.eq.ensures ∙ c.if-eq.true) in
    sym (here-level c.args.x.now.scope c.loop-var.var c.loop-var.level c.args.name.now known is) ∙ c.loop-var.invariant.level

pub loop-var-preserved : goal.loop-var-preserved
loop-var-preserved c =
    let known : c.loop-var.var < length c.args.x.now.scope = let size = ap length c.scope-scope.ensures in omega (arith, c.loop-var-test.true, c.len-var-end.ensures.len, size) in
    let is : bytes_eq (variable_at c.args.x.now.scope c.loop-var.var).name c.args.name.now ≡ false = sym (ap (λ found. bytes_eq found c.args.name.now) (c.name_of_variable.ensures ∙ ap (λ scope. (variable_at scope c.loop-var.var).name) c.scope-scope.ensures)) ∙ (sym c.eq.ensures ∙ c.if-eq.false) in
    let bits : c.bits_of_variable-level.result ≡ bits_of (variable_at c.args.x.now.scope c.loop-var.var) = c.bits_of_variable-level.ensures.bits ∙ ap (λ scope. bits_of (variable_at scope c.loop-var.var)) c.scope-scope.ensures in
    let rest = ap bits_in (drop-next c.args.x.now.scope c.loop-var.var known) in
    record {
      left = omega (arith, c.loop-var.invariant.left, rest, bits);
      named = later-named c.args.x.now.scope c.loop-var.var c.loop-var.level c.args.name.now known is ∙ c.loop-var.invariant.named;
      level = ap (λ more. frames.level_in (drop (c.loop-var.var + 1) c.args.x.now.scope) (c.loop-var.level + more) c.args.name.now) bits
          ∙ later-level c.args.x.now.scope c.loop-var.var c.loop-var.level c.args.name.now known is ∙ c.loop-var.invariant.level;
    }
