-- Proves that the routes find the endpoint that a path names, by its parts between slashes.
use Rattle.std.proofs.lemmas.Grind.{common_steps}
use Rattle.std.proofs.Common.{◌≡◌, ◌∙◌, sym, ap, subst, refl, ℕ, ◌+◌, ◌<◌, ◌≤◌, true, false, cond, ltb, List, [], ◌∷◌}
use Rattle.std.proofs.Common.{◌++◌, length, drop, get_or, codes, Option, Some, None, Result, OnOk, MatchOption, Bor}
use Rattle.std.proofs.Common.{unwrap_or, arith, length-append, append-nil, take_at}
use Rattle.std.specs.List.{list_all, slice_split, onto_first, join_with_byte}
use Rattle.std.specs.Str.{IsUtf8, bytes_eq}
use Rattle.std.proofs.lemmas.Bool.Decides.{nat_tests}
use Rattle.std.proofs.lemmas.List.Splits.{join_with_byte-slice_split}
use Rattle.std.proofs.lemmas.Slice.Eq.{bytes_eq-Decides}
use Rattle.std.proofs.lemmas.Str.{IsUtf8-take, IsUtf8-drop, IsUtf8-encode, encode_ascii, IsCharBoundary-after_ascii}
use Rattle.std.proofs.lemmas.Str.{IsCharBoundary-before_ascii}
use Rattle.std.proofs.Math.Seq.{get_or-append_seam}
use Rattle.matchit.specs.Rows.{param_token}
use Rattle.matchit.specs.Seek.{own, segment, has_slash, slash, first}
use Rattle.matchit.specs.Params.{walk, wild_from, wild_stop, part_of, named, AllText}
use Rattle.matchit.specs.Router.{RouteOf, InsertsRead}
use Rattle.matchit.specs.Route.{parse_route}
use Rattle.matchit.specs.declared.error.InsertError.{InsertError}
use Rattle.matchit.proofs.OnLiterals.{matchit_on_literals}
use Rattle.thes_http_request.specs.declared.endpoint.Endpoint.{Endpoint}
use Rattle.thes_http_request.specs.declared.endpoint.Endpoint.TheVariants.{Requests, Plans, Import, Totals, Concept, Postings}
use Rattle.thes_http_request.specs.declared.endpoint.Endpoint.TheVariants.{Posting, Export, Alphabetical, Hierarchical}
use Rattle.thes_http_request.specs.Endpoints.{EndpointMatch, is_slash, endpoint_of_path, endpoint_of_parts}
use Rattle.thes_http_request.specs.Endpoints.{endpoint_named, endpoint_within, endpoint_below, display_named}
use Rattle.thes_http_request.specs.Endpoints.{numbered_endpoint}
use Rattle.thes_http_request.specs.Routes.{RouteRows, with_route, route_rows}
use Rattle.thes_http_request.proofs.MatchLemmas.{is_byte, matches_word, AnyRow, IsMatch, any_elim, found_matches, steps}
use Rattle.thes_http_request.proofs.MatchLemmas.{none_after, none_end, none_suffix, segment_all, segment_to_slash}
use Rattle.thes_http_request.proofs.MatchLemmas.{no_cut, cuts_at_slash}

-- A route without a number.
abbrev plain_route : List ℕ → Endpoint → RouteOf Endpoint
plain_route text endpoint = record { pattern = text; text = text; names = []; value = endpoint }

-- A route with a number between two texts.
abbrev numbered_route : List ℕ → List ℕ → Endpoint → RouteOf Endpoint
numbered_route before after endpoint = record {
  pattern = before ++ param_token ∷ after;
  text = before ++ (codes "{n}" ++ after);
  names = (length before + 1, length before + 2) ∷ [];
  value = endpoint;
}

abbrev row : RouteOf Endpoint → List ℕ × RouteOf Endpoint
row r = (r.pattern, r)

abbrev ten_rows : RouteRows
ten_rows =
    row (numbered_route (codes "/concepts/") (codes "/postings") Postings)
    ∷ row (numbered_route (codes "/concepts/") [] Concept)
    ∷ row (plain_route (codes "/display/alphabetical") Alphabetical)
    ∷ row (plain_route (codes "/display/hierarchical") Hierarchical)
    ∷ row (plain_route (codes "/export") Export)
    ∷ row (plain_route (codes "/import") Import)
    ∷ row (plain_route (codes "/plans") Plans)
    ∷ row (numbered_route (codes "/postings/") [] Posting)
    ∷ row (plain_route (codes "/requests") Requests)
    ∷ row (plain_route (codes "/totals") Totals)
    ∷ []

ten_rows_are : route_rows ≡ ten_rows
unfolding route_rows with_route matchit_on_literals
ten_rows_are = refl

-- A text without a slash is one part of a path, and a slash separates it from the parts that
-- follow.

no_slash_at : (b : ℕ) (v : List ℕ) → has_slash (b ∷ v) ≡ false → (is_slash b ≡ false) × (has_slash v ≡ false)
no_slash_at b v h = grind (arith, common_steps)

parts_of_one : (v : List ℕ) → has_slash v ≡ false → slice_split is_slash v ≡ v ∷ []
parts_of_one [] h = refl
parts_of_one (b ∷ v) h = let n = no_slash_at b v h in rw (n.0, parts_of_one v n.1) refl

parts_after : (v rest : List ℕ) → has_slash v ≡ false → slice_split is_slash (v ++ slash ∷ rest)
    ≡ v ∷ slice_split is_slash rest
parts_after [] rest h = refl
parts_after (b ∷ v) rest h = let n = no_slash_at b v h in rw (n.0, parts_after v rest n.1) refl

-- No part has a slash.
abbrev NoSlashes : List (List ℕ) → Type 0
NoSlashes [] = Unit {0}
NoSlashes (part ∷ parts) = (has_slash part ≡ false) × NoSlashes parts

no_slash_onto : (b : ℕ) (parts : List (List ℕ)) → is_slash b ≡ false → NoSlashes parts → NoSlashes (onto_first b parts)
no_slash_onto b parts e h = grind (arith, common_steps)

no_slash_parts : (path : List ℕ) → NoSlashes (slice_split is_slash path)
no_slash_parts [] = (refl, tt)
no_slash_parts (b ∷ path) = grind (arith, common_steps, no_slash_onto, no_slash_parts path)

-- Walking along a pattern and a path reaches the parameter after the bytes that precede it, and the parameter takes the
-- bytes of the path up to where it stops.

param_after : (w t : List ℕ) (len token at : ℕ) → list_all is_byte w ≡ true → at + length w ≤ len
    → wild_from (w ++ param_token ∷ t) len token at ≡ (token + length w, at + length w)
param_after [] t len token at h l = grind (arith, common_steps)
param_after (x ∷ w) t len token at h l = grind (arith, common_steps, param_after w t len (token + 1))

part_between : (w v rest : List ℕ) (stop : ℕ) → stop ≡ length w + length v
    → part_of (w ++ (v ++ rest)) (length w) stop ≡ v
part_between w v rest stop e = grind (arith, common_steps)

-- A route with one parameter gives one pair: the parameter's name, and the text that it took.
walk_one : (w t text path : List ℕ) (name : ℕ × ℕ) (v rest : List ℕ) → list_all is_byte w ≡ true
    → path ≡ w ++ (v ++ rest) → wild_stop (w ++ param_token ∷ t) (length w) path (length w) ≡ length w + length v
    → walk (w ++ param_token ∷ t) text path (name ∷ []) 0 0 ≡ (part_of text name.0 name.1, v) ∷ []
walk_one w t text path name v rest h e stop = grind (arith, common_steps, param_after, part_between)

-- The text that the parameter of a route took, or an empty text.
abbrev pub number_in : RouteOf Endpoint → List ℕ → List ℕ
number_in r path = unwrap_or (named (codes "n") (walk r.pattern r.text path r.names 0 0)) []

-- The route is that of the endpoint that the path names. If the path is UTF-8, so is the text that the parameter took.
pub record IsRouteOf (path : List ℕ) (r : RouteOf Endpoint) : Type 0 where
  pub endpoint : endpoint_of_path path ≡ Some (record { endpoint = r.value; number = number_in r path })
  pub text : IsUtf8 path → AllText (walk r.pattern r.text path r.names 0 0)

plain_is : (w : List ℕ) (endpoint : Endpoint) (path : List ℕ) (r : RouteOf Endpoint) → list_all is_byte w ≡ true
    → endpoint_of_path w ≡ Some (record { endpoint = endpoint; number = [] })
    → IsMatch r path w (plain_route w endpoint) → IsRouteOf path r
plain_is w endpoint path r h is m =
    let one = matches_word w [] path h (rw (append-nil w) m.1) in
    let whole : path ≡ w = one.1 ∙ (ap (λ t. w ++ t) one.2 ∙ append-nil w) in
    rw (← m.0, whole) (record { endpoint = is; text = λ u. tt })

utf8_after : (bytes : List ℕ) (i : ℕ) → IsUtf8 bytes → i < length bytes → get_or bytes i 0 ≡ slash
    → IsUtf8 (drop (i + 1) bytes)
utf8_after bytes i u l e = IsUtf8-drop bytes (i + 1) u (IsCharBoundary-after_ascii bytes i u l (omega (arith, e)))

utf8_before : (v rest : List ℕ) → IsUtf8 (v ++ slash ∷ rest) → IsUtf8 v
utf8_before v rest u =
    let n = length-append v (slash ∷ rest) in
    let at = get_or-append_seam v slash rest 0 in
    let cut = IsUtf8-take (v ++ slash ∷ rest) (length v) u
    (IsCharBoundary-before_ascii (v ++ slash ∷ rest) (length v) (omega arith) (omega (arith, at))) in
    rw (take_at v (slash ∷ rest) (length v) refl) at cut

-- The endpoint, with the text that the parameter of its route took.
abbrev endpoint_with : Endpoint → List (List ℕ × List ℕ) → Option EndpointMatch
endpoint_with endpoint pairs = Some (record { endpoint = endpoint; number = unwrap_or (named (codes "n") pairs) [] })

-- A path that matches a route with a number names the endpoint of the route.
numbered_is : (w t : List ℕ) (endpoint : Endpoint) (path v rest : List ℕ) (r : RouteOf Endpoint)
    → list_all is_byte w ≡ true → path ≡ w ++ (v ++ rest) → numbered_route w t endpoint ≡ r
    → wild_stop (w ++ param_token ∷ t) (length w) path (length w) ≡ length w + length v
    → part_of (w ++ (codes "{n}" ++ t)) (length w + 1) (length w + 2) ≡ codes "n"
    → endpoint_of_path (w ++ (v ++ rest)) ≡ Some (record { endpoint = endpoint; number = v })
    → (IsUtf8 (w ++ (v ++ rest)) → IsUtf8 v) → IsRouteOf path r
numbered_is w t endpoint path v rest r h e k stop name is utf =
    let one = walk_one w t (w ++ (codes "{n}" ++ t)) path (length w + 1, length w + 2) v rest h e stop in
    let pairs : walk (w ++ param_token ∷ t) (w ++ (codes "{n}" ++ t)) path ((length w + 1, length w + 2) ∷ []) 0 0
    ≡ (codes "n", v) ∷ [] = one ∙ ap (λ x. (x, v) ∷ []) name in
    subst (λ (x : RouteOf Endpoint). IsRouteOf path x) k (record {
      endpoint = ap endpoint_of_path e ∙ (is ∙ sym (ap (endpoint_with endpoint) pairs));
      text = λ u. subst AllText (sym pairs) (
        subst IsUtf8 (encode_ascii 110 (omega arith)) (IsUtf8-encode 110 refl),
        utf (subst IsUtf8 e u),
        tt,
      );
    })

concept_is : (path : List ℕ) (r : RouteOf Endpoint)
    → IsMatch r path (codes "/concepts/" ++ param_token ∷ []) (numbered_route (codes "/concepts/") [] Concept)
    → IsRouteOf path r
unfolding endpoint_of_path
concept_is path r m =
    let w = codes "/concepts/" in
    let one = matches_word w (param_token ∷ []) path refl m.1 in
    let p = one.2 in
    let v = p.taken in
    let e : path ≡ w ++ (v ++ []) = one.1 ∙ ap (λ t. w ++ t) (p.is ∙ ap (λ t. v ++ t) p.matches) in
    let n = ap length e ∙ length-append w (v ++ []) in
    let n' = length-append v [] in
    let some : ltb 0 (length v) ≡ true = grind (arith, nat_tests, p.some) in
    numbered_is w [] Concept path v [] r refl e m.0 (omega arith) refl
    (rw (append-nil v, parts_of_one v p.within, some) refl)
    (λ u. rw (append-nil v) at (utf8_after (w ++ (v ++ [])) 9 u (omega arith) refl))

posting_is : (path : List ℕ) (r : RouteOf Endpoint)
    → IsMatch r path (codes "/postings/" ++ param_token ∷ []) (numbered_route (codes "/postings/") [] Posting)
    → IsRouteOf path r
unfolding endpoint_of_path
posting_is path r m =
    let w = codes "/postings/" in
    let one = matches_word w (param_token ∷ []) path refl m.1 in
    let p = one.2 in
    let v = p.taken in
    let e : path ≡ w ++ (v ++ []) = one.1 ∙ ap (λ t. w ++ t) (p.is ∙ ap (λ t. v ++ t) p.matches) in
    let n = ap length e ∙ length-append w (v ++ []) in
    let n' = length-append v [] in
    let some : ltb 0 (length v) ≡ true = grind (arith, nat_tests, p.some) in
    numbered_is w [] Posting path v [] r refl e m.0 (omega arith) refl
    (rw (append-nil v, parts_of_one v p.within, some) refl)
    (λ u. rw (append-nil v) at (utf8_after (w ++ (v ++ [])) 9 u (omega arith) refl))

postings_is : (path : List ℕ) (r : RouteOf Endpoint)
    → IsMatch r path (codes "/concepts/" ++ param_token ∷ codes "/postings")
    (numbered_route (codes "/concepts/") (codes "/postings") Postings)
    → IsRouteOf path r
unfolding endpoint_of_path
postings_is path r m =
    let w = codes "/concepts/" in
    let t = codes "/postings" in
    let one = matches_word w (param_token ∷ t) path refl m.1 in
    let p = one.2 in
    let v = p.taken in
    let two = matches_word t [] p.rest refl p.matches in
    let e : path ≡ w ++ (v ++ t) = one.1
    ∙ ap (λ x. w ++ x) (p.is ∙ ap (λ x. v ++ x) (two.1 ∙ ap (λ x. t ++ x) two.2)) in
    let n = length-append v (slash ∷ []) in
    let stop : wild_stop (w ++ param_token ∷ t) (length w) (w ++ (v ++ t)) (length w) ≡ length w + length v =
    rw (segment_to_slash v (codes "postings") p.within) (omega arith) in
    let some : ltb 0 (length v) ≡ true = grind (arith, nat_tests, p.some) in
    numbered_is w t Postings path v t r refl e m.0
    (ap (λ x. wild_stop (w ++ param_token ∷ t) (length w) x (length w)) e ∙ stop) refl
    (rw (parts_after v (codes "postings") p.within, some) refl)
    (λ u. utf8_before v (codes "postings") (utf8_after (w ++ (v ++ t)) 9 u (omega (arith, length-append w (v ++ t)))
    refl))

row_and_rest : {A B : Type 0} → A → B → A × B
row_and_rest a b = (a, b)

route_found_in : (path : List ℕ) (r : RouteOf Endpoint) → AnyRow (IsMatch r path) ten_rows → IsRouteOf path r
unfolding endpoint_of_path
route_found_in path r h = any_elim (IsMatch r path) ten_rows
    (row_and_rest (postings_is path r) (row_and_rest (concept_is path r)
    (row_and_rest (plain_is (codes "/display/alphabetical") Alphabetical path r refl refl)
    (row_and_rest (plain_is (codes "/display/hierarchical") Hierarchical path r refl refl)
    (row_and_rest (plain_is (codes "/export") Export path r refl refl)
    (row_and_rest (plain_is (codes "/import") Import path r refl refl)
    (row_and_rest (plain_is (codes "/plans") Plans path r refl refl) (row_and_rest (posting_is path r)
    (row_and_rest (plain_is (codes "/requests") Requests path r refl refl)
    (row_and_rest (plain_is (codes "/totals") Totals path r refl refl) tt)))))))))) h

-- A route that the router finds is that of the endpoint which the path names.
pub route_found : (rows : RouteRows) (path : List ℕ) (r : RouteOf Endpoint) → rows ≡ route_rows
    → first rows path ≡ Some r → IsRouteOf path r
route_found rows path r e f =
    route_found_in path r (found_matches 0 ten_rows path r (rw (e ∙ ten_rows_are) at f))

-- A choice by a name is None if its second branch is None, and its first branch is None for a part with that name.
unless_named : (a w : List ℕ) (x y : Option EndpointMatch) → (a ≡ w → x ≡ None) → y ≡ None
    → cond (bytes_eq a w) x y ≡ None
unless_named a w x y f e = grind (arith, common_steps, bytes_eq-Decides)

-- A path that is exactly the pattern of a row has a route.
misses : {Q : Type 0} (w : List ℕ) (r : RouteOf Endpoint) → first ten_rows w ≡ None → own (steps w ten_rows) ≡ Some r
    → Q
unfolding matchit_on_literals
misses w r e o =
    let left = none_after w ten_rows [] (rw (append-nil w) e) in
    absurd (cc)

named_none : (a : List ℕ) → first ten_rows (slash ∷ a) ≡ None → endpoint_named a ≡ None
named_none a e =
    unless_named a (codes "requests") _ _ (λ s. misses (codes "/requests") _ (rw s at e) refl)
    (unless_named a (codes "plans") _ _ (λ s. misses (codes "/plans") _ (rw s at e) refl)
    (unless_named a (codes "import") _ _ (λ s. misses (codes "/import") _ (rw s at e) refl)
    (unless_named a (codes "totals") _ _ (λ s. misses (codes "/totals") _ (rw s at e) refl)
    (unless_named a (codes "export") _ _ (λ s. misses (codes "/export") _ (rw s at e) refl) refl))))

display_none : (b : List ℕ) → first ten_rows (codes "/display/" ++ b) ≡ None → display_named b ≡ None
display_none b e =
    unless_named b (codes "alphabetical") _ _ (λ s. misses (codes "/display/alphabetical") _ (rw s at e) refl)
    (unless_named b (codes "hierarchical") _ _ (λ s. misses (codes "/display/hierarchical") _ (rw s at e) refl) refl)

concept_none : (b : List ℕ) → has_slash b ≡ false → first ten_rows (codes "/concepts/" ++ b) ≡ None
    → numbered_endpoint Concept b ≡ None
concept_none [] h e = refl
concept_none (x ∷ b) h e =
    let left = none_after (codes "/concepts/") ten_rows (x ∷ b) e in
    let none = none_end (steps (codes "/concepts/") ten_rows) _ x b refl
    (rw (segment_all (x ∷ b) h, no_cut (x ∷ b) h) refl) h left in
    absurd (cc)

posting_none : (b : List ℕ) → has_slash b ≡ false → first ten_rows (codes "/postings/" ++ b) ≡ None
    → numbered_endpoint Posting b ≡ None
posting_none [] h e = refl
posting_none (x ∷ b) h e =
    let left = none_after (codes "/postings/") ten_rows (x ∷ b) e in
    let none = none_end (steps (codes "/postings/") ten_rows) _ x b refl refl h left in
    absurd (cc)

postings_none : (b : List ℕ) → has_slash b ≡ false → first ten_rows (codes "/concepts/"
    ++ (b ++ codes "/postings")) ≡ None → numbered_endpoint Postings b ≡ None
unfolding matchit_on_literals
postings_none [] h e = refl
postings_none (x ∷ b) h e =
    let left = none_after (codes "/concepts/") ten_rows (x ∷ (b ++ codes "/postings")) e in
    let seg : segment (x ∷ (b ++ codes "/postings")) ≡ x ∷ (b ++ slash ∷ []) =
    segment_to_slash (x ∷ b) (codes "postings") h in
    let n = length-append b (slash ∷ []) in
    let rest = none_suffix (steps (codes "/concepts/") ten_rows) _ x b (codes "postings") refl
    (rw (seg, cuts_at_slash x b) refl) (rw seg (omega arith)) left in
    absurd (cc)

within_none : (a b : List ℕ) → has_slash b ≡ false → first ten_rows (slash ∷ (a ++ slash ∷ b)) ≡ None
    → endpoint_within a b ≡ None
within_none a b h e = grind (arith, common_steps, unless_named, concept_none, posting_none, display_none)

below_none : (a b c : List ℕ) → has_slash b ≡ false → first ten_rows (slash ∷ (a ++ slash ∷ (b ++ slash ∷ c))) ≡ None
    → endpoint_below a b c ≡ None
below_none a b c h e = grind (arith, common_steps, bytes_eq-Decides, postings_none)

parts_none : (parts : List (List ℕ)) → NoSlashes parts → first ten_rows (join_with_byte slash parts) ≡ None
    → endpoint_of_parts parts ≡ None
parts_none [] n e = refl
parts_none ((x ∷ part) ∷ parts) n e = refl
parts_none ([] ∷ []) n e = refl
parts_none ([] ∷ a ∷ []) n e = named_none a e
parts_none ([] ∷ a ∷ b ∷ []) n e = within_none a b n.1.1.0 e
parts_none ([] ∷ a ∷ b ∷ c ∷ []) n e = below_none a b c n.1.1.0 e
parts_none ([] ∷ a ∷ b ∷ c ∷ d ∷ more) n e = refl

-- A path for which the router finds no route names no endpoint.
pub no_route_found : (rows : RouteRows) (path : List ℕ) → rows ≡ route_rows → first rows path ≡ None
    → endpoint_of_path path ≡ None
unfolding endpoint_of_path
no_route_found rows path e f =
    parts_none (slice_split is_slash path) (no_slash_parts path)
    (ap (first ten_rows) (join_with_byte-slice_split slash path) ∙ rw (e ∙ ten_rows_are) at f)

-- Inserting a route into the router adds the route to its rows.
pub rows_with_new_route : (text : List ℕ) (endpoint : Endpoint) (old new : RouteRows)
    (r : Result (Unit {0}) InsertError)
    → InsertsRead (parse_route text) endpoint old new r → OnOk r (new ≡ with_route text endpoint old)
unfolding with_route
rows_with_new_route text endpoint old new r i = grind (arith, common_steps)

taken_text : (pairs : List (List ℕ × List ℕ)) (taken : Option (Bor (List ℕ))) (none : Bor (List ℕ)) → none.now ≡ []
    → MatchOption taken (named (codes "n") pairs ≡ None) (λ v. named (codes "n") pairs ≡ Some v.now)
    → (unwrap_or taken none).now ≡ unwrap_or (named (codes "n") pairs) []
taken_text pairs taken none e m = grind (arith, common_steps)

-- A route that the router finds is that of the endpoint which the path names, with the text that
-- the parameter took.
pub route_with_text : (rows : RouteRows) (path shown : List ℕ) (r : RouteOf Endpoint) (taken : Option (Bor (List ℕ)))
    (none : Bor (List ℕ)) → rows ≡ route_rows → first rows path ≡ Some r → shown ≡ path → IsUtf8 path
    → none.now ≡ [] → (AllText (walk r.pattern r.text shown r.names 0 0)
    → MatchOption taken (named (codes "n") (walk r.pattern r.text shown r.names 0 0) ≡ None)
    (λ v. named (codes "n") (walk r.pattern r.text shown r.names 0 0) ≡ Some v.now))
    → endpoint_of_path path ≡ Some (record { endpoint = r.value; number = (unwrap_or taken none).now })
route_with_text rows path shown r taken none e f s u n m =
    let is = route_found rows path r e f in
    let pairs = walk r.pattern r.text path r.names 0 0 in
    let text = taken_text pairs taken none n (rw s at m (is.text u)) in
    is.endpoint ∙ ap (λ (t : List ℕ). Some (record { endpoint = r.value; number = t })) (sym text)
