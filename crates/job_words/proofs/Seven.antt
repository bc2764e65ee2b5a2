use Rattle.std.proofs.Common.{◌≡◌, ◌<◌, ℕ, List, [], ◌∷◌, length, map, get_or, refl, arith}

-- a list of seven is its seven elements
pub seven : {X Y : Type 0} (f : X → Y) (xs : List X) (a b c d e g h : X) → length xs ≡ 7 → a ≡ get_or xs 0 a → b ≡ get_or xs 1 b → c ≡ get_or xs 2 c → d ≡ get_or xs 3 d → e ≡ get_or xs 4 e → g ≡ get_or xs 5 g → h ≡ get_or xs 6 h → map f xs ≡ f a ∷ f b ∷ f c ∷ f d ∷ f e ∷ f g ∷ f h ∷ []
seven f (a' ∷ b' ∷ c' ∷ d' ∷ e' ∷ g' ∷ h' ∷ []) a b c d e g h n p0 p1 p2 p3 p4 p5 p6 = cc
seven f [] a b c d e g h n p0 p1 p2 p3 p4 p5 p6 = absurd (omega (arith, n))
seven f (a' ∷ []) a b c d e g h n p0 p1 p2 p3 p4 p5 p6 = absurd (omega (arith, n))
seven f (a' ∷ b' ∷ []) a b c d e g h n p0 p1 p2 p3 p4 p5 p6 = absurd (omega (arith, n))
seven f (a' ∷ b' ∷ c' ∷ []) a b c d e g h n p0 p1 p2 p3 p4 p5 p6 = absurd (omega (arith, n))
seven f (a' ∷ b' ∷ c' ∷ d' ∷ []) a b c d e g h n p0 p1 p2 p3 p4 p5 p6 = absurd (omega (arith, n))
seven f (a' ∷ b' ∷ c' ∷ d' ∷ e' ∷ []) a b c d e g h n p0 p1 p2 p3 p4 p5 p6 = absurd (omega (arith, n))
seven f (a' ∷ b' ∷ c' ∷ d' ∷ e' ∷ g' ∷ []) a b c d e g h n p0 p1 p2 p3 p4 p5 p6 = absurd (omega (arith, n))
seven f (a' ∷ b' ∷ c' ∷ d' ∷ e' ∷ g' ∷ h' ∷ (k ∷ more)) a b c d e g h n p0 p1 p2 p3 p4 p5 p6 = absurd (omega (arith, n))
