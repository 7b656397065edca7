-- Proves that a route which a router finds matches the path, and which paths have a route.
use Rattle.std.proofs.lemmas.Grind.{common_steps}
use Rattle.std.proofs.Common.{◌≡◌, ◌∙◌, sym, ap, refl, ◌⊎◌, inl, inr, ⊎_elim, ℕ, zero, suc, ◌+◌, ◌-◌, ◌<◌, ◌≤◌, ◌==◌}
use Rattle.std.proofs.Common.{◌&&◌, Bool, true, false, cond, ltb, List, [], ◌∷◌, ◌++◌, length, take, drop, Option, Some}
use Rattle.std.proofs.Common.{None, nat_eq, arith, length-take-le, take_all, append-nil}
use Rattle.std.specs.Prelude.{⊤}
use Rattle.std.specs.List.{list_all, ends_with}
use Rattle.std.proofs.lemmas.Bool.Decides.{nat_tests, Decides-eqb}
use Rattle.std.proofs.lemmas.Slice.Eq.{ends_is}
use Rattle.matchit.specs.Rows.{RowsOf, param_token, catch_all_token}
use Rattle.matchit.specs.Seek.{own, step, or_else, segment, has_slash, slash, cuts, better, longest_from}
use Rattle.matchit.specs.Seek.{longest_suffix, with_suffix, param_step, seek}
use Rattle.matchit.proofs.ParamLemmas.{length-segment, one_less}

-- A parameter takes some bytes without a slash, and the rest matches.
pub record TakesParam (Rest : List ℕ → Type 0) (path : List ℕ) : Type 0 where
  pub taken : List ℕ
  pub rest : List ℕ
  pub is : path ≡ taken ++ rest
  pub some : 0 < length taken
  pub within : has_slash taken ≡ false
  pub matches : Rest rest

-- The path begins with this byte, and the rest matches.
pub record TakesByte (x : ℕ) (Rest : List ℕ → Type 0) (path : List ℕ) : Type 0 where
  pub rest : List ℕ
  pub is : path ≡ x ∷ rest
  pub matches : Rest rest

-- How a path matches a token and the rest of a pattern, given whether the token is a parameter or a
-- catch-all.
abbrev pub TakesToken : Bool → Bool → ℕ → (List ℕ → Type 0) → List ℕ → Type 0
TakesToken true all x Rest path = TakesParam Rest path
TakesToken false true x Rest path = ⊤
TakesToken false false x Rest path = TakesByte x Rest path

-- The path matches the pattern.
abbrev pub Matches : List ℕ → List ℕ → Type 0
Matches [] path = path ≡ []
Matches (x ∷ t) path = TakesToken (x == param_token) (x == catch_all_token) x (λ rest. Matches t rest) path

matches_byte : (b : ℕ) (t path : List ℕ) → Matches t path → Matches (b ∷ t) (b ∷ path)
matches_byte b t path m = by (b == param_token) refl (b == catch_all_token)
  where
    by : (u : Bool) → (b == param_token) ≡ u → (c : Bool) → TakesToken u c b (λ rest. Matches t rest) (b ∷ path)
    by true e c = let same : b ≡ 256 = grind (arith, nat_tests) in
        record { taken = b ∷ []; rest = path; is = refl; some = omega arith; within = rw same refl; matches = m }
    by false e true = tt
    by false e false = record { rest = path; is = refl; matches = m }

-- Whether the token is a byte.
abbrev pub is_byte : ℕ → Bool
is_byte x = ltb x param_token

-- If a pattern begins with some bytes, a path that matches it begins with the same bytes, and the rest of the path
-- matches the rest of the pattern.
pub matches_word : (w t path : List ℕ) → list_all is_byte w ≡ true → Matches (w ++ t) path
    → (rest : List ℕ) × (path ≡ w ++ rest) × Matches t rest
matches_word [] t path h m = (path, refl, m)
matches_word (x ∷ w) t path h m = grind (arith, common_steps, matches_word w t)

take_segment : (n : ℕ) (path : List ℕ) → n < length (segment path) → has_slash (take n path) ≡ false
take_segment zero path l = refl
take_segment (suc n) [] l = refl
take_segment (suc n) (b ∷ path) l = grind (arith, common_steps, take_segment n path)

cut_path : (n b : ℕ) (path : List ℕ) → 0 < n → b ∷ path ≡ take n (b ∷ path) ++ drop (n - 1) path
cut_path n b path l = grind (arith, common_steps, one_less)

module _ {K : Type 0} where
  -- Some row has the property.
  abbrev pub AnyRow : (List ℕ → K → Type 0) → RowsOf K → Type 0
  AnyRow P [] = ⊥
  AnyRow P ((t, k) ∷ rest) = P t k ⊎ AnyRow P rest

  -- Each row has the property.
  abbrev pub AllRows : (List ℕ → K → Type 0) → RowsOf K → Type 0
  AllRows P [] = ⊤
  AllRows P ((t, k) ∷ rest) = P t k × AllRows P rest

  -- The row's pattern matches the path, and its key is this one.
  abbrev pub IsMatch : K → List ℕ → List ℕ → K → Type 0
  IsMatch key path t k = (k ≡ key) × Matches t path

  pub any_elim : {Q : Type 0} (P : List ℕ → K → Type 0) (rs : RowsOf K) → AllRows (λ t k. P t k → Q) rs → AnyRow P rs
      → Q
  any_elim P [] f h = absurd h
  any_elim P ((t, k) ∷ rest) f (inl p) = f.0 p
  any_elim P ((t, k) ∷ rest) f (inr h) = any_elim P rest f.1 h

  any_own : (P : List ℕ → K → Type 0) (key : K) (rs : RowsOf K) → P [] key → own rs ≡ Some key → AnyRow P rs
  any_own P key [] p e = absurd (cc)
  any_own P key (([], k) ∷ rest) p e = let same : k ≡ key = cc in inl (rw same p)
  any_own P key ((x ∷ t, k) ∷ rest) p e = inr (any_own P key rest p e)

  any_step : (P Q : List ℕ → K → Type 0) (b : ℕ) → ((t : List ℕ) (k : K) → P t k → Q (b ∷ t) k) → (rs : RowsOf K)
      → AnyRow P (step b rs) → AnyRow Q rs
  any_step P Q b f [] h = h
  any_step P Q b f (([], k) ∷ rest) h = inr (any_step P Q b f rest h)
  any_step P Q b f ((x ∷ t, k) ∷ rest) h = grind (arith, common_steps, any_step P Q b f rest)

  any_with_suffix : (P : List ℕ → K → Type 0) (s : List ℕ) (rs : RowsOf K) → AnyRow P (with_suffix s rs) → AnyRow P rs
  any_with_suffix P s [] h = h
  any_with_suffix P s ((t, k) ∷ rest) h = grind (arith, common_steps, any_with_suffix P s rest)

  longest_is : (P : List ℕ → Type 0) (seg best : List ℕ) (rs : RowsOf K) → P best
      → ((s : List ℕ) → cuts seg s ≡ true → P s) → P (longest_from seg best rs)
  longest_is P seg best [] p f = p
  longest_is P seg best ((t, k) ∷ rest) p f =
      longest_is P seg (better seg best (segment t)) rest (by (ltb (length best) (length (segment t)))
      (cuts seg (segment t)) refl) f
    where
      by : (u c : Bool) → cuts seg (segment t) ≡ c → P (cond (u && c) (segment t) best)
      by true true e = f (segment t) e
      by true false e = p
      by false c e = p

  -- A parameter takes the first `n` bytes of the path, which have no slash, and leaves these rows.
  record IsParamStep (P : List ℕ → K → Type 0) (rs : RowsOf K) (path : List ℕ) (n : ℕ) (left : RowsOf K) : Type 0 where
    some : 0 < n
    within_path : n ≤ length path
    no_slash : has_slash (take n path) ≡ false
    rows : AnyRow P left → AnyRow P rs

  -- The number of bytes that a parameter takes and the rows that remain, given the suffix that follows the parameter,
  -- whether there is one, and whether the path has a slash.
  abbrev taken_by : RowsOf K → List ℕ → List ℕ → Bool → Bool → ℕ × RowsOf K
  taken_by rs path s u v =
      cond {A = ℕ × RowsOf K} u (length (segment path) - length s, with_suffix s rs)
      (cond {A = ℕ × RowsOf K} v (0, []) (length path, rs))

  abbrev TakesSome : (List ℕ → K → Type 0) → RowsOf K → List ℕ → ℕ × RowsOf K → Type 0
  TakesSome P rs path ps = (ps.1 ≡ []) ⊎ IsParamStep P rs path ps.0 ps.1

  param_steps : (P : List ℕ → K → Type 0) (rs : RowsOf K) (b : ℕ) (path : List ℕ)
      → TakesSome P rs (b ∷ path) (param_step rs (b ∷ path))
  unfolding param_step
  param_steps P rs b path = by (longest_suffix (segment (b ∷ path)) rs)
      (longest_is (λ s. 0 < length s → cuts (segment (b ∷ path)) s ≡ true) (segment (b ∷ path)) [] rs
      (λ l. absurd (omega arith)) (λ s e l. e))
      (ltb 0 (length (longest_suffix (segment (b ∷ path)) rs))) refl (has_slash (b ∷ path)) refl
    where
      by : (s : List ℕ) → (0 < length s → cuts (segment (b ∷ path)) s ≡ true)
          → (u : Bool) → ltb 0 (length s) ≡ u → (v : Bool) → has_slash (b ∷ path) ≡ v
          → TakesSome P rs (b ∷ path) (taken_by rs (b ∷ path) s u v)
      by s f true e v q =
          let some : 0 < length s = grind (arith, nat_tests) in
          let cut = f some in
          let short : length s < length (segment (b ∷ path)) = grind (arith, nat_tests) in
          let whole = length-segment (b ∷ path) in
          inr (record {
            some = omega arith;
            within_path = omega arith;
            no_slash = take_segment (length (segment (b ∷ path)) - length s) (b ∷ path) (omega arith);
            rows = λ h. any_with_suffix P s rs h;
          })
      by s f false e true q = inl refl
      by s f false e false q = inr (record {
        some = omega arith;
        within_path = omega arith;
        no_slash = ap has_slash (take_all (length (b ∷ path)) (b ∷ path) (omega arith)) ∙ q;
        rows = λ h. h;
      })

  or_cases : (x y : Option K) (key : K) → or_else x y ≡ Some key → (x ≡ Some key) ⊎ (y ≡ Some key)
  or_cases x y key e = grind (arith, common_steps)

  match_param : (rs : RowsOf K) (key : K) (b : ℕ) (path : List ℕ) (n : ℕ) (left : RowsOf K) → (left ≡ [])
      ⊎ IsParamStep (IsMatch key (drop (n - 1) path)) (step param_token rs) (b ∷ path) n left
      → AnyRow (IsMatch key (drop (n - 1) path)) left
      → AnyRow (IsMatch key (b ∷ path)) rs
  match_param rs key b path n left (inl e) h = absurd (rw e at h)
  match_param rs key b path n left (inr p) h = any_step (IsMatch key (drop (n - 1) path)) (IsMatch key (b ∷ path))
      param_token (λ t k m. (
        m.0,
        record {
          taken = take n (b ∷ path);
          rest = drop (n - 1) path;
          is = cut_path n b path p.some;
          some = let l = length-take-le n (b ∷ path) p.within_path in omega (arith, l, p.some);
          within = p.no_slash;
          matches = m.1;
        },
      )) rs (p.rows h)

  match_here : (rs : RowsOf K) (key : K) (b : ℕ) (path : List ℕ)
      → ((n : ℕ) (qs : RowsOf K) → seek n qs path ≡ Some key → AnyRow (IsMatch key (drop n path)) qs)
      → seek 0 rs (b ∷ path) ≡ Some key → AnyRow (IsMatch key (b ∷ path)) rs
  unfolding seek
  match_here rs key b path ih e =
      let ps = param_step (step param_token rs) (b ∷ path) in
      ⊎_elim (λ x. any_step (IsMatch key path) (IsMatch key (b ∷ path)) b (λ t k m. (m.0, matches_byte b t path m.1)) rs
      (ih 0 (step b rs) x))
      (λ y. ⊎_elim (λ x. match_param rs key b path ps.0 ps.1 (param_steps (IsMatch key (drop (ps.0 - 1) path))
      (step param_token rs) b path) (ih (ps.0 - 1) ps.1 x))
      (λ z. any_step (λ t k. k ≡ key) (IsMatch key (b ∷ path)) catch_all_token (λ t k s. (s, tt)) rs
      (any_own (λ t k. k ≡ key) key (step catch_all_token rs) refl z))
      (or_cases _ _ key y))
      (or_cases _ _ key e)

  -- A route that is found after `n` bytes were skipped matches the rest of the path.
  pub found_matches : (n : ℕ) (rs : RowsOf K) (path : List ℕ) (key : K) → seek n rs path ≡ Some key
      → AnyRow (IsMatch key (drop n path)) rs
  unfolding seek
  found_matches zero rs [] key e = any_own (IsMatch key []) key rs (refl, refl) e
  found_matches (suc n) rs [] key e = any_own (IsMatch key []) key rs (refl, refl) e
  found_matches (suc n) rs (b ∷ path) key e = found_matches n rs path key e
  found_matches zero rs (b ∷ path) key e = match_here rs key b path (λ m qs x. found_matches m qs path key x) e

  -- If a search with an alternative finds nothing, neither the search nor the alternative finds anything.

  none_of : (x y : Option K) → or_else x y ≡ None → (x ≡ None) × (y ≡ None)
  none_of x y e = grind (arith, common_steps)

  -- The rows that remain after these bytes of a path.
  abbrev pub steps : List ℕ → RowsOf K → RowsOf K
  steps [] rs = rs
  steps (b ∷ w) rs = steps w (step b rs)

  -- If no route matches a path, none of the rows that remain after its first bytes matches the rest.
  pub none_after : (w : List ℕ) (rs : RowsOf K) (path : List ℕ) → seek 0 rs (w ++ path) ≡ None
      → seek 0 (steps w rs) path ≡ None
  unfolding seek
  none_after [] rs path e = e
  none_after (b ∷ w) rs path e = none_after w (step b rs) path (none_of _ _ e).0

  none_param : (rs : RowsOf K) (b : ℕ) (path : List ℕ) → seek 0 rs (b ∷ path) ≡ None
      → seek ((param_step (step param_token rs) (b ∷ path)).0 - 1) (param_step (step param_token rs) (b ∷ path)).1 path
      ≡ None
  unfolding seek
  none_param rs b path e = (none_of _ _ (none_of _ _ e).1).0

  seek_skip : (v : List ℕ) (rs : RowsOf K) (rest : List ℕ) → seek (length v) rs (v ++ rest) ≡ seek 0 rs rest
  unfolding seek
  seek_skip [] rs rest = refl
  seek_skip (b ∷ v) rs rest = seek_skip v rs rest

  -- If no route matches a path without a slash, no route consists of a parameter alone.
  pub none_end : (rs left : RowsOf K) (b : ℕ) (v : List ℕ) → step param_token rs ≡ left
      → longest_suffix (segment (b ∷ v)) left ≡ []
      → has_slash (b ∷ v) ≡ false → seek 0 rs (b ∷ v) ≡ None → own left ≡ None
  unfolding seek param_step
  none_end rs left b v s l h e =
      let after : seek (length v) left v ≡ None = rw (s, l, h, one_less (length v)) at (none_param rs b v e) in
      sym (seek_skip v left []) ∙ (ap (seek (length v) left) (append-nil v) ∙ after)

  -- If no route matches a path, no route whose parameter ends at the path's first slash matches the path from that
  -- slash on.
  pub none_suffix : (rs left : RowsOf K) (b : ℕ) (v rest : List ℕ) → step param_token rs ≡ left
      → longest_suffix (segment (b ∷ (v ++ slash ∷ rest))) left ≡ slash ∷ []
      → length (segment (b ∷ (v ++ slash ∷ rest))) ≡ length v + 2
      → seek 0 rs (b ∷ (v ++ slash ∷ rest)) ≡ None
      → seek 0 (with_suffix (slash ∷ []) left) (slash ∷ rest) ≡ None
  unfolding param_step
  none_suffix rs left b v rest s l n e =
      let after = rw (s, l, n) at (none_param rs b (v ++ slash ∷ rest) e) in
      let count : length v + 2 - 1 - 1 ≡ length v = omega arith in
      sym (seek_skip v (with_suffix (slash ∷ []) left) (slash ∷ rest)) ∙ rw count at after

-- A segment of a path ends with its first slash, or with the path.

pub slash_within : (a c : List ℕ) → has_slash (a ++ slash ∷ c) ≡ true
slash_within [] c = refl
slash_within (b ∷ a) c = grind (arith, common_steps, slash_within a c)

pub segment_all : (v : List ℕ) → has_slash v ≡ false → segment v ≡ v
segment_all [] h = refl
segment_all (b ∷ v) h = grind (arith, common_steps, segment_all v)

pub segment_to_slash : (v rest : List ℕ) → has_slash v ≡ false → segment (v ++ slash ∷ rest) ≡ v ++ slash ∷ []
segment_to_slash [] rest h = refl
segment_to_slash (b ∷ v) rest h = grind (arith, common_steps, segment_to_slash v rest)

ends_slash : (seg : List ℕ) → (ends_with nat_eq seg (slash ∷ []) ≡ true → seg ≡ take (length seg - 1) seg ++ slash ∷ [])
    × ((front : List ℕ) → seg ≡ front ++ slash ∷ [] → ends_with nat_eq seg (slash ∷ []) ≡ true)
ends_slash seg = ends_is Decides-eqb seg (slash ∷ []) (ends_with nat_eq seg (slash ∷ [])) refl

pub no_cut : (seg : List ℕ) → has_slash seg ≡ false → cuts seg (slash ∷ []) ≡ false
no_cut seg h = grind (arith, common_steps, ends_slash, slash_within)

pub cuts_at_slash : (b : ℕ) (v : List ℕ) → cuts (b ∷ (v ++ slash ∷ [])) (slash ∷ []) ≡ true
cuts_at_slash b v = grind (arith, common_steps, ends_slash)
