-- Lists in which each number stands once, in the order in which it was put there first.
use Rattle.std.proofs.Common.{◌≡◌, ◌==◌, ◌+◌, ◌<◌, ◌≤◌, ◌⊎◌, ◌||◌, ℕ, suc, Bool, true, false, if◌then◌else◌, List, [], ◌∷◌, ◌++◌, length, get_or, refl, sym, ap, ◌∙◌, subst, inl, inr, length-append, append_assoc, arith}
use Rattle.std.specs.List.{All, AllPairs, Any}
use Rattle.std.proofs.lemmas.Bool.{eqb-true, eq-eqb, true≢false, cases_lt, or_cases, or_left, or_right}
use Rattle.std.proofs.lemmas.List.{get_or_append_left}
use Rattle.std.proofs.lemmas.List.Elements.{All-push}
use Rattle.std.proofs.lemmas.List.Folds.{list_any_at, list_any-append}
use Rattle.std.proofs.lemmas.List.Quantifiers.{all_pairs_push}
use Rattle.bdd_walk.specs.Walk.{is_among, put, put_all}

-- members of joined lists
pub among-left : (xs ys : List ℕ) (s : ℕ) → is_among xs s ≡ true → is_among (xs ++ ys) s ≡ true
among-left xs ys s is = list_any-append (λ x. s == x) xs ys ∙ or_left (is_among xs s) (is_among ys s) is

pub among-right : (xs ys : List ℕ) (s : ℕ) → is_among ys s ≡ true → is_among (xs ++ ys) s ≡ true
among-right xs ys s is = list_any-append (λ x. s == x) xs ys ∙ or_right (is_among xs s) (is_among ys s) is

pub among-either : (xs ys : List ℕ) (s : ℕ) → is_among (xs ++ ys) s ≡ true → (is_among xs s ≡ true) ⊎ (is_among ys s ≡ true)
among-either xs ys s is = or_cases (is_among xs s) (is_among ys s) (sym (list_any-append (λ x. s == x) xs ys) ∙ is)

among-one : (r s : ℕ) → is_among (r ∷ []) s ≡ true → s ≡ r
among-one r s is = by (or_cases (s == r) false is)
  where
    by : ((s == r) ≡ true) ⊎ (false ≡ true) → s ≡ r
    by (inl same) = eqb-true s r same
    by (inr wrong) = absurd (true≢false (sym wrong))

among-itself : (r : ℕ) → is_among (r ∷ []) r ≡ true
among-itself r = or_left (r == r) false (eq-eqb r r refl)

-- a member's place
pub among-place : (xs : List ℕ) (s : ℕ) → is_among xs s ≡ true → (i : ℕ) × (i < length xs) × (get_or xs i 0 ≡ s)
among-place [] s is = absurd (true≢false (sym is))
among-place (x ∷ xs) s is = by (s == x) refl (λ rest. among-place xs s rest)
  where
    by : (b : Bool) → (s == x) ≡ b → (is_among xs s ≡ true → (i : ℕ) × (i < length xs) × (get_or xs i 0 ≡ s)) → (i : ℕ) × (i < length (x ∷ xs)) × (get_or (x ∷ xs) i 0 ≡ s)
    by true e rest = (0, omega arith, sym (eqb-true s x e))
    by false e rest =
        let later : is_among xs s ≡ true = sym (ap (λ b. b || is_among xs s) e) ∙ is in
        let at = rest later in
        (suc at.0, omega (arith, at.1), at.2)

pub among-at : (xs : List ℕ) (i s : ℕ) → i < length xs → get_or xs i 0 ≡ s → is_among xs s ≡ true
among-at xs i s within is = list_any_at (λ x. s == x) xs i 0 within (eq-eqb s (get_or xs i 0) (sym is))

pub among-any : (P : ℕ → Type 0) (xs : List ℕ) (s : ℕ) → is_among xs s ≡ true → P s → Any P xs
among-any P [] s is p = absurd (true≢false (sym is))
among-any P (x ∷ xs) s is p = by (s == x) refl (λ rest. among-any P xs s rest p)
  where
    by : (b : Bool) → (s == x) ≡ b → (is_among xs s ≡ true → Any P xs) → Any P (x ∷ xs)
    by true e rest = let same = eqb-true s x e in (0, s, omega arith, sym same, p)
    by false e rest =
        let at = rest (sym (ap (λ b. b || is_among xs s) e) ∙ is) in
        (suc at.0, at.1, omega (arith, at.2), at.3, at.4)

module _ (refs : List ℕ) (r : ℕ) where
  put-known : is_among refs r ≡ true → put refs r ≡ refs
  put-known known = ap (λ b. if b then refs else refs ++ r ∷ []) known

  put-new : is_among refs r ≡ false → put refs r ≡ refs ++ r ∷ []
  put-new new = ap (λ b. if b then refs else refs ++ r ∷ []) new

  pub put-kept : (s : ℕ) → is_among refs s ≡ true → is_among (put refs r) s ≡ true
  put-kept s is = by (is_among refs r) refl
    where
      by : (b : Bool) → is_among refs r ≡ b → is_among (put refs r) s ≡ true
      by true e = ap (λ l. is_among l s) (put-known e) ∙ is
      by false e = ap (λ l. is_among l s) (put-new e) ∙ among-left refs (r ∷ []) s is

  pub put-in : is_among (put refs r) r ≡ true
  put-in = by (is_among refs r) refl
    where
      by : (b : Bool) → is_among refs r ≡ b → is_among (put refs r) r ≡ true
      by true e = ap (λ l. is_among l r) (put-known e) ∙ e
      by false e = ap (λ l. is_among l r) (put-new e) ∙ among-right refs (r ∷ []) r (among-itself r)

  pub put-either : (s : ℕ) → is_among (put refs r) s ≡ true → (s ≡ r) ⊎ (is_among refs s ≡ true)
  put-either s is = by (is_among refs r) refl
    where
      last : (is_among refs s ≡ true) ⊎ (is_among (r ∷ []) s ≡ true) → (s ≡ r) ⊎ (is_among refs s ≡ true)
      last (inl old) = inr old
      last (inr new) = inl (among-one r s new)

      by : (b : Bool) → is_among refs r ≡ b → (s ≡ r) ⊎ (is_among refs s ≡ true)
      by true e = inr (sym (ap (λ l. is_among l s) (put-known e)) ∙ is)
      by false e = last (among-either refs (r ∷ []) s (sym (ap (λ l. is_among l s) (put-new e)) ∙ is))

  All-put : (P : ℕ → Type 0) → All P refs → P r → All P (put refs r)
  All-put P all p = by (is_among refs r) refl
    where
      Q : List ℕ → Type 0
      Q l = All P l

      by : (b : Bool) → is_among refs r ≡ b → All P (put refs r)
      by true e = subst Q (sym (put-known e)) all
      by false e = subst Q (sym (put-new e)) (All-push P refs r all p)

pub put_all-append : (refs xs ys : List ℕ) → put_all refs (xs ++ ys) ≡ put_all (put_all refs xs) ys
put_all-append refs [] ys = refl
put_all-append refs (x ∷ xs) ys = put_all-append (put refs x) xs ys

pub put_all-kept : (refs xs : List ℕ) (s : ℕ) → is_among refs s ≡ true → is_among (put_all refs xs) s ≡ true
put_all-kept refs [] s is = is
put_all-kept refs (x ∷ xs) s is = put_all-kept (put refs x) xs s (put-kept refs x s is)

pub put_all-in : (refs xs : List ℕ) (s : ℕ) → is_among xs s ≡ true → is_among (put_all refs xs) s ≡ true
put_all-in refs [] s is = absurd (true≢false (sym is))
put_all-in refs (x ∷ xs) s is = by (or_cases (s == x) (is_among xs s) is) (λ rest. put_all-in (put refs x) xs s rest)
  where
    by : ((s == x) ≡ true) ⊎ (is_among xs s ≡ true) → (is_among xs s ≡ true → is_among (put_all (put refs x) xs) s ≡ true) → is_among (put_all (put refs x) xs) s ≡ true
    by (inl same) rest =
        let is_x = eqb-true s x same in
        put_all-kept (put refs x) xs s (ap (is_among (put refs x)) is_x ∙ put-in refs x)
    by (inr later) rest = rest later

-- what is there already changes nothing
pub put_all-known : (refs xs : List ℕ) → ((s : ℕ) → is_among xs s ≡ true → is_among refs s ≡ true) → put_all refs xs ≡ refs
put_all-known refs [] known = refl
put_all-known refs (x ∷ xs) known =
    let there : is_among refs x ≡ true = known x (or_left (x == x) (is_among xs x) (eq-eqb x x refl)) in
    ap (λ l. put_all l xs) (put-known refs x there)
    ∙ put_all-known refs xs (λ s is. known s (or_right (s == x) (is_among xs s) is))

pub All-put_all : (P : ℕ → Type 0) (refs xs : List ℕ) → All P refs → All P xs → All P (put_all refs xs)
All-put_all P refs [] all each k d within = all k d within
All-put_all P refs (x ∷ xs) all each k d within =
    All-put_all P (put refs x) xs (All-put refs x P all (each 0 x (omega arith))) (λ i e inside. each (suc i) e (omega arith)) k d within

-- r stands before each s
pub record IsEarlier (whole : List ℕ) (r s : ℕ) : Type 0 where
  pub at : ℕ
  pub within : at < length whole
  pub is : get_or whole at 0 ≡ r
  pub before : (j : ℕ) → j < length whole → get_or whole j 0 ≡ s → at < j

earlier-new : (whole done xs refs : List ℕ) (x : ℕ) → whole ≡ done ++ xs → ((s : ℕ) → is_among refs s ≡ true → is_among done s ≡ true) → ((s : ℕ) → is_among done s ≡ true → is_among refs s ≡ true) → is_among refs x ≡ false → (r : ℕ) → is_among refs r ≡ true → IsEarlier whole r x
earlier-new whole done xs refs x parts there back new r member =
    let at = among-place done r (there r member) in
    let long : length whole ≡ length done + length xs = ap length parts ∙ length-append done xs in
    let front : (j : ℕ) → j < length done → get_or whole j 0 ≡ get_or done j 0 = λ j inside. ap (λ l. get_or l j 0) parts ∙ get_or_append_left done xs 0 j inside in
    record {
      at = at.0;
      within = omega (arith, at.1, long);
      is = front at.0 at.1 ∙ at.2;
      before = λ j inside is. by at.0 at.1 j is front (cases_lt j (length done));
    }
  where
    by : (i : ℕ) → i < length done → (j : ℕ) → get_or whole j 0 ≡ x → ((k : ℕ) → k < length done → get_or whole k 0 ≡ get_or done k 0) → (j < length done) ⊎ (length done ≤ j) → i < j
    by i within j is front (inl inside) = absurd (true≢false (sym (back x (among-at done j x inside (sym (front j inside) ∙ is))) ∙ new))
    by i within j is front (inr after) = omega arith

-- of two numbers the earlier one was met first
pub earlier-put_all : (whole done xs refs : List ℕ) → whole ≡ done ++ xs → ((s : ℕ) → is_among refs s ≡ true → is_among done s ≡ true) → ((s : ℕ) → is_among done s ≡ true → is_among refs s ≡ true) → AllPairs (IsEarlier whole) refs → AllPairs (IsEarlier whole) (put_all refs xs)
earlier-put_all whole done [] refs parts there back pairs i j d less within = pairs i j d less within
earlier-put_all whole done (x ∷ xs) refs parts there back pairs i j d less within =
    earlier-put_all whole (done ++ x ∷ []) xs (put refs x)
    (parts ∙ sym (append_assoc done (x ∷ []) xs))
    (λ s is. forth s (put-either refs x s is))
    (λ s is. return s (among-either done (x ∷ []) s is))
    (more (is_among refs x) refl)
    i j d less within
  where
    forth : (s : ℕ) → (s ≡ x) ⊎ (is_among refs s ≡ true) → is_among (done ++ x ∷ []) s ≡ true
    forth s (inl same) = ap (is_among (done ++ x ∷ [])) same ∙ among-right done (x ∷ []) x (among-itself x)
    forth s (inr old) = among-left done (x ∷ []) s (there s old)

    return : (s : ℕ) → (is_among done s ≡ true) ⊎ (is_among (x ∷ []) s ≡ true) → is_among (put refs x) s ≡ true
    return s (inl old) = put-kept refs x s (back s old)
    return s (inr new) = ap (is_among (put refs x)) (among-one x s new) ∙ put-in refs x

    P : List ℕ → Type 0
    P l = AllPairs (IsEarlier whole) l

    more : (b : Bool) → is_among refs x ≡ b → AllPairs (IsEarlier whole) (put refs x)
    more true known = subst P (sym (put-known refs x known)) pairs
    more false new =
        subst P (sym (put-new refs x new))
        (all_pairs_push (IsEarlier whole) refs x pairs
        (λ k e inside. earlier-new whole done (x ∷ xs) refs x parts there back new (get_or refs k e) (list_any_at (λ s. get_or refs k e == s) refs k e inside (eq-eqb (get_or refs k e) (get_or refs k e) refl))))
