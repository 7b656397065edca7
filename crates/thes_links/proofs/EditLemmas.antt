-- The links read at a node, mapped to the links after the edit, are those with an end there after the edit.
use Rattle.std.proofs.lemmas.Grind.{common_steps}
use Rattle.std.proofs.Common.{◌≡◌, ◌≢◌, ◌⊎◌, inl, inr, ℕ, List, [], ◌∷◌, ◌++◌, ap, sym, subst, ◌∙◌, arith}
use Rattle.std.proofs.Common.{Contains, Option, Some, None}
use Rattle.std.specs.List.{filter_map}
use Rattle.std.proofs.lemmas.List.Elements.{Contains-append_left, Contains-push, Contains-push_cases}
use Rattle.thes_base.specs.declared.data.Link.{Link}
use Rattle.thes_base.specs.declared.data.LinkKind.{LinkKind}
use Rattle.thes_base.specs.Links.{Links, Holds, HasEnd}
use Rattle.thes_base.proofs.ListMemberLemmas.{Contains-none, Contains-head, Contains-later, Contains-cons_cases}
use Rattle.thes_links.specs.declared.edit.LinkEdit.{LinkEdit}
use Rattle.thes_links.specs.declared.edit.LinkEdit.TheVariants.{NoEdit, WithLink, AfterMerge}
use Rattle.thes_links.specs.Reading.{HaveTwoEnds}
use Rattle.thes_links.specs.LinkEdit.{node_after, link_after_merge, HeldAfter, TouchesAt, IsReadOf, IsValidEdit}
use Rattle.thes_links.specs.LinkEdit.{row_after_edit}

module _ {X Y : Type 0} (h : X → Option Y) where
  -- The first item of a list adds one item or none to the filtered and mapped list.
  pub map_head : (x : X) (xs : List X) → ((y : Y) × (h x ≡ Some y) × (filter_map h (x ∷ xs) ≡ y ∷ filter_map h xs))
      ⊎ ((h x ≡ None) × (filter_map h (x ∷ xs) ≡ filter_map h xs))
  map_head x xs = grind (arith, common_steps)

  pub filter_map-from : (xs : List X) (y : Y) → Contains (filter_map h xs) y → (x : X) × Contains xs x × (h x ≡ Some y)
  filter_map-from [] y has = absurd (Contains-none y has)
  filter_map-from (x ∷ xs) y has = go (λ rest. let r = filter_map-from xs y rest in
      (r.0, Contains-later x xs r.0 r.1, r.2)) (map_head x xs)
    where
      go : (Contains (filter_map h xs) y → (x' : X) × Contains (x ∷ xs) x' × (h x' ≡ Some y))
          → ((z : Y) × (h x ≡ Some z) × (filter_map h (x ∷ xs) ≡ z ∷ filter_map h xs))
          ⊎ ((h x ≡ None) × (filter_map h (x ∷ xs) ≡ filter_map h xs)) → (x' : X) × Contains (x ∷ xs) x'
          × (h x' ≡ Some y)
      go later (inl (z, gives, is)) =
          elim (Contains-cons_cases z (filter_map h xs) y (subst (λ (ws : List Y). Contains ws y) is has)) [
            | inl same ↦ (x, Contains-head x xs, gives ∙ ap Some same)
            | inr rest ↦ later rest
          ]
      go later (inr (_, is)) = later (subst (λ (ws : List Y). Contains ws y) is has)

  -- An item that the function maps to a value has that value in the filtered and mapped list.
  pub filter_map-to : (xs : List X) (x : X) (y : Y) → Contains xs x → h x ≡ Some y → Contains (filter_map h xs) y
  filter_map-to [] x y has gives = absurd (Contains-none x has)
  filter_map-to (w ∷ xs) x y has gives = go (λ rest. filter_map-to xs x y rest gives) (map_head w xs)
    where
      none_some : None ≡ Some y → ⊥
      none_some e = cc

      some_same : (z : Y) → Some z ≡ Some y → z ≡ y
      some_same z e = cc

      at : w ≡ x → h w ≡ Some y
      at same = ap h same ∙ gives

      go : (Contains xs x → Contains (filter_map h xs) y)
          → ((z : Y) × (h w ≡ Some z) × (filter_map h (w ∷ xs) ≡ z ∷ filter_map h xs))
          ⊎ ((h w ≡ None) × (filter_map h (w ∷ xs) ≡ filter_map h xs)) → Contains (filter_map h (w ∷ xs)) y
      go later (inl (z, some, is)) = subst (λ (ws : List Y). Contains ws y) (sym is)
          (elim (Contains-cons_cases w xs x has) [
            | inl same ↦ subst (λ (v : Y). Contains (z ∷ filter_map h xs) v) (some_same z (sym some ∙ at same))
                (Contains-head z (filter_map h xs))
            | inr rest ↦ Contains-later z (filter_map h xs) y (later rest)
          ])
      go later (inr (none, is)) = subst (λ (ws : List Y). Contains ws y) (sym is)
          (elim (Contains-cons_cases w xs x has) [
            | inl same ↦ absurd (none_some (sym none ∙ at same))
            | inr rest ↦ later rest
          ])

-- A link after a merge has the kind of the link before it, its ends redirected, and two different ends.
pub link_after_merge-ends : (source target : ℕ) (l m : Link) → link_after_merge source target l ≡ Some m
    → (m.kind ≡ l.kind) × (m.a ≡ node_after (AfterMerge source target) l.a)
    × (m.b ≡ node_after (AfterMerge source target) l.b) × (m.a ≢ m.b)
link_after_merge-ends source target l m e = grind (arith, common_steps)

module _ (held : Links) (node : ℕ) (row : List Link) where
  pub row_after_edit-sound : (edit : LinkEdit) → IsReadOf edit held node row → (m : Link)
      → Contains (row_after_edit edit row) m → HeldAfter edit held m
  row_after_edit-sound NoEdit is m has = is.sound m has
  row_after_edit-sound (WithLink new) is m has = elim (Contains-push_cases row new m has) [
    | inl x ↦ inl (is.sound m x)
    | inr same ↦ inr same
  ]
  row_after_edit-sound (AfterMerge source target) is m has = let r = filter_map-from (link_after_merge source target)
      row m has in (r.0, is.sound r.0 r.1, r.2)

  pub row_after_edit-complete : (edit : LinkEdit) → IsReadOf edit held node row → (m : Link) → HeldAfter edit held m
      → HasEnd node m → Contains (row_after_edit edit row) m
  row_after_edit-complete NoEdit is m has at = is.complete m has at
  row_after_edit-complete (WithLink new) is m (inl has) at = Contains-append_left row (new ∷ []) m
      (is.complete m has at)
  row_after_edit-complete (WithLink new) is m (inr same) at = subst (λ (w : Link). Contains (row ++ new ∷ []) w) same
      (Contains-push row new)
  row_after_edit-complete (AfterMerge source target) is m (l, has, gives) at =
      filter_map-to (link_after_merge source target) row l m (is.complete l has (touch at)) gives
    where
      touch : HasEnd node m → TouchesAt (AfterMerge source target) node l
      touch (inl a) = inl (sym (link_after_merge-ends source target l m gives).1 ∙ a)
      touch (inr b) = inr (sym (link_after_merge-ends source target l m gives).2 ∙ b)

-- Links with two different ends have two different ends after the edit.
pub would_two : (held : Links) (edit : LinkEdit) → IsValidEdit edit → HaveTwoEnds (Holds held)
    → HaveTwoEnds (HeldAfter edit held)
would_two held NoEdit fit two l has = two l has
would_two held (WithLink new) fit two l (inl has) = two l has
would_two held (WithLink new) fit two l (inr same) =
    λ ends. fit (ap (λ (w : Link). w.a) same ∙ ends ∙ sym (ap (λ (w : Link). w.b) same))
would_two held (AfterMerge source target) fit two m (l, has, gives) = (link_after_merge-ends source target l m gives).3

pub link_same : (k k' : LinkKind) (a a' b b' : ℕ) → k ≡ k' → a ≡ a' → b ≡ b'
    → ◌≡◌ {A = Link} (record { kind = k; a = a; b = b }) (record { kind = k'; a = a'; b = b' })
link_same k k' a a' b b' e f g = cc
