use Rattle.std.proofs.Common.{◌≡◌, ◌+◌, ◌++◌, ◌∷◌, [], ◌∙◌, ℕ, List, length, map, sym, ap, arith}
use Rattle.std.specs.List.{range_with_len}
use Rattle.std.proofs.lemmas.List.{append_assoc, length_push}
use Rattle.std.proofs.lemmas.List.FromFn.{map-range_with_len_more}
use Rattle.net_frame.proofs.latches.push_shifted.Goals as goal

more-pairs : (f : ℕ → ℕ × ℕ) (old had now : List (ℕ × ℕ)) (k : ℕ) → had ≡ old ++ map f (range_with_len 0 k) → now ≡ had ++ f k ∷ [] → now ≡ old ++ map f (range_with_len 0 (k + 1))
more-pairs f old had now k so_far more =
    more ∙ ap (λ pairs. pairs ++ f k ∷ []) so_far
    ∙ append_assoc old (map f (range_with_len 0 k)) (f k ∷ [])
    ∙ ap (λ pairs. old ++ pairs) (sym (map-range_with_len_more f 0 k k (omega arith)))

pub loop-k-preserved : goal.loop-k-preserved
loop-k-preserved c =
    let size = ap length c.in_ok-push.ensures.items ∙ length_push c.loop-k.pairs.items (c.args.level + c.args.bits + c.loop-k.k, c.args.level + c.loop-k.k) in
    record {
      pairs = more-pairs (λ k. (c.args.level + c.args.bits + k, c.args.level + k)) c.args.pairs.now.items c.loop-k.pairs.items c.push.new.self.items c.loop-k.k c.loop-k.invariant.pairs c.in_ok-push.ensures.items;
      few = omega (arith, size, c.loop-k.invariant.few);
    }
