-- The results for the blocks of related concepts decide whether all links satisfy S27.
use Rattle.std.proofs.lemmas.Grind.{common_steps}
use Rattle.std.proofs.Common.{◌≡◌, inl, inr, ◌↔◌, ◌+◌, ◌<◌, ◌≤◌, ℕ, Bool, true, false, List, []}
use Rattle.std.proofs.Common.{◌∷◌, ◌++◌, Contains, Some, length}
use Rattle.std.proofs.Common.{take, get_or, slice_get, refl, sym, ap, subst, ◌∙◌, arith}
use Rattle.std.specs.Bool.{MatchBool}
use Rattle.std.proofs.lemmas.Bool.{cases_lt}
use Rattle.std.proofs.lemmas.Option.{slice_get-get_or}
use Rattle.std.proofs.Math.Seq.{get_or-append_seam, take-append_seam}
use Rattle.std.proofs.lemmas.List.{take-append-le, get_or_append_left, get_or_default, take_all, take_more}
use Rattle.std.proofs.lemmas.List.{length-append}
use Rattle.std.proofs.lemmas.List.Elements.{Contains-append_left, Contains-push, Contains-push_cases}
use Rattle.thes_base.specs.declared.data.Link.{Link}
use Rattle.thes_base.specs.declared.data.LinkKind.{LinkKind}
use Rattle.thes_base.specs.declared.data.LinkKind.TheVariants.{Related, RelMatch}
use Rattle.thes_base.specs.Links.{Links, Holds, LinkLeads, related_direction, IsNarrower, IsRelated}
use Rattle.thes_base.specs.Links.{S27}
use Rattle.thes_links.specs.declared.relation.Relation.TheVariants as relation
use Rattle.thes_graph.specs.declared.find_cycle.PathNode.{PathNode}
use Rattle.thes_links.specs.Reading.{HaveTwoEnds}
use Rattle.thes_links.specs.Rules.{ReachesUp}
use Rattle.thes_graph.specs.CycleSearch.{IsUpwardOrder}
use Rattle.thes_links.specs.Words.{HasBit}
use Rattle.thes_graph.specs.UpperSets.{IsRowNode, AreUpwardRows, AreUpperSets}
use Rattle.thes_links.specs.Steps.{HasDirection}
use Rattle.thes_graph.specs.Whole.{HasAllEnds, KeepsS27Below, BreaksS27}
use Rattle.thes_links.proofs.PivotLemmas.{S27-witness}
use Rattle.thes_links.proofs.StepLemmas.{Leads-first}
use Rattle.thes_graph.proofs.WholeLemmas.{never, pair}

-- Each row lists exactly the broader nodes of its node, and comes after their rows; each of the nodes has a row.
pub record AreRowsOf (held : Links) (rows : List PathNode) (nodes : List ℕ) : Type 0 where
  pub broader : (r : PathNode) → Contains rows r → (h : ℕ) → Contains r.above.items h ↔ IsNarrower (Holds held) r.node h
  pub above_first : (k : ℕ) (d : PathNode) → k < length rows → (h : ℕ) → Contains (get_or rows k d).above.items h
      → IsRowNode (take k rows) h
  pub covers : (n : ℕ) → Contains nodes n → IsRowNode rows n

AreRowsOf-more : (held : Links) (rows : List PathNode) (nodes : List ℕ) (r : PathNode) (n : ℕ) → r.node ≡ n
    → ((h : ℕ) → Contains r.above.items h ↔ IsNarrower (Holds held) n h)
    → ((h : ℕ) → IsNarrower (Holds held) n h → Contains nodes h) → AreRowsOf held rows nodes
    → AreRowsOf held (rows ++ r ∷ []) (nodes ++ n ∷ [])
AreRowsOf-more held rows nodes r n same broader above before = record {
  broader = λ q has h. elim (Contains-push_cases rows r q has) [
    | inl old ↦ before.broader q old h
    | inr last ↦ subst (λ (p : PathNode). Contains p.above.items h ↔ IsNarrower (Holds held) p.node h) last
        (subst (λ (m : ℕ). Contains r.above.items h ↔ IsNarrower (Holds held) m h) (sym same) (broader h))
  ];
  above_first = λ k d within h up. elim (cases_lt k (length rows)) [
    | inl inside ↦ subst (λ (rs : List PathNode). IsRowNode rs h) (sym (take-append-le k rows (r ∷ []) (omega arith)))
        (before.above_first k d inside h (subst (λ (p : PathNode). Contains p.above.items h)
        (get_or_append_left rows (r ∷ []) d k inside) up))
    | inr past ↦
        let at : k ≡ length rows = omega (arith, length-append rows (r ∷ [])) in
        let last : get_or (rows ++ r ∷ []) k d ≡ r = ap (λ (i : ℕ). get_or (rows ++ r ∷ []) i d) at
        ∙ get_or-append_seam rows r [] d in
        subst (λ (rs : List PathNode). IsRowNode rs h)
        (sym (ap (λ (i : ℕ). take i (rows ++ r ∷ [])) at ∙ take-append_seam rows (r ∷ [])))
        (before.covers h (above h ((broader h).0 (subst (λ (p : PathNode). Contains p.above.items h) last up))))
  ];
  covers = λ m has. elim (Contains-push_cases nodes n m has) [
    | inl old ↦ let q = before.covers m old in (q.0, Contains-append_left rows (r ∷ []) q.0 q.1, q.2)
    | inr last ↦ (r, Contains-push rows r, same ∙ last)
  ];
}

pub AreRowsOf-next : (held : Links) (rows : List PathNode) (order : List ℕ) (i : ℕ) (r : PathNode) (n : ℕ)
    → i < length order → n ≡ get_or order i n → r.node ≡ n
    → ((h : ℕ) → Contains r.above.items h ↔ IsNarrower (Holds held) n h) → IsUpwardOrder (Holds held) order
    → AreRowsOf held rows (take i order) → AreRowsOf held (rows ++ r ∷ []) (take (i + 1) order)
AreRowsOf-next held rows order i r n within at same broader upward before =
    subst (λ (ns : List ℕ). AreRowsOf held (rows ++ r ∷ []) ns)
    (sym (take_more order i n within ∙ ap (λ (m : ℕ). take i order ++ m ∷ []) (sym at)))
    (AreRowsOf-more held rows (take i order) r n same broader
    (λ h up. upward.above_first i within h (subst (λ (m : ℕ). IsNarrower (Holds held) m h)
    (at ∙ get_or_default order i n 0 within) up)) before)

pub AreRowsOf-end : (held : Links) (rows : List PathNode) (nodes : List ℕ) (k : ℕ) → length nodes ≤ k
    → HasAllEnds (Holds held) nodes → AreRowsOf held rows (take k nodes) → AreUpwardRows held rows
AreRowsOf-end held rows nodes k past ends all = grind (arith, common_steps, Leads-first, take_all)

related_turns : (kind : LinkKind) (a b x y : ℕ) → LinkLeads (related_direction kind) a b x y
    → LinkLeads (related_direction kind) a b y x
related_turns Related a b x y (inl (e, f)) = inr (f, e)
related_turns Related a b x y (inr (e, f)) = inl (f, e)
related_turns RelMatch a b x y (inl (e, f)) = inr (f, e)
related_turns RelMatch a b x y (inr (e, f)) = inl (f, e)
related_turns _ a b x y h = absurd h

module _ (Held : Link → Type 0) where
  IsRelated-turn : (x y : ℕ) → IsRelated Held x y → IsRelated Held y x
  IsRelated-turn x y (l, held, leads) = (l, held, related_turns l.kind l.a l.b x y leads)

  -- A concept that is related to one below it breaks S27.
  s27_below : HaveTwoEnds Held → (n y : ℕ) → IsRelated Held n y → ReachesUp Held y n → BreaksS27 Held
  s27_below two n y related up = S27-witness Held two n (y, n, up, inl refl, IsRelated-turn n y related)

  -- If no concept at the end of a related link is related to one below it, S27 holds.
  s27_free : (nodes : List ℕ) → ((n : ℕ) → Contains nodes n → KeepsS27Below Held n)
      → ((l : Link) → Held l → HasDirection relation.Related l → Contains nodes l.a × Contains nodes l.b) → S27 Held
  s27_free nodes free ends = record {
    none = λ x y (l, held, leads) above.
        free y (at x y l held leads) x (l, held, related_turns l.kind l.a l.b x y leads) (inr above);
  }
    where
      at : (x y : ℕ) (l : Link) → Held l → LinkLeads (related_direction l.kind) l.a l.b x y → Contains nodes y
      at x y l held leads =
          let both = ends l held (never (related_direction l.kind) l.a l.b x y leads) in
          elim (pair (related_direction l.kind) l.a l.b x y leads) [
            | inl (_, second) ↦ subst (λ (m : ℕ). Contains nodes m) second both.1
            | inr (_, second) ↦ subst (λ (m : ℕ). Contains nodes m) second both.0
          ]

  pub s27_decided : (found : Bool) (nodes : List ℕ) → MatchBool found (BreaksS27 Held) ((n : ℕ) → Contains nodes n
      → KeepsS27Below Held n)
      → ((l : Link) → Held l → HasDirection relation.Related l → Contains nodes l.a × Contains nodes l.b)
      → MatchBool found (BreaksS27 Held) (S27 Held)
  s27_decided true nodes is ends = is
  s27_decided false nodes free ends = s27_free nodes free ends

-- Assumes the check of the j-th node of a block.
module _ (held : Links) (block words : List ℕ) (sets : AreUpperSets held block words) (j n : ℕ)
    (within : j < length block) (at : n ≡ get_or block j n) (related : List ℕ)
    (next : (y : ℕ) → Contains related y ↔ IsRelated (Holds held) n y) where
  is_at : slice_get block j ≡ Some n
  is_at = slice_get-get_or block j n within ∙ ap (λ (m : ℕ). Some m) (sym at)

  pub s27_found : HaveTwoEnds (Holds held) → (y : ℕ) → Contains related y → HasBit words y j → BreaksS27 (Holds held)
  s27_found two y has bit = s27_below (Holds held) two n y ((next y).0 has) ((sets y j n is_at).0 bit)

  pub s27_passed : ((y : ℕ) → Contains related y → HasBit words y j → ⊥)
      → ((m : ℕ) → Contains (take j block) m → KeepsS27Below (Holds held) m) → (m : ℕ) → Contains (take (j + 1) block) m
      → KeepsS27Below (Holds held) m
  s27_passed none before m has =
      elim (Contains-push_cases (take j block) n m (subst (λ (ns : List ℕ). Contains ns m) grown has)) [
        | inl old ↦ before m old
        | inr last ↦ subst (λ (q : ℕ). KeepsS27Below (Holds held) q) last
            (λ y to up. none y ((next y).1 to) ((sets y j n is_at).1 up))
      ]
    where
      grown : take (j + 1) block ≡ take j block ++ n ∷ []
      grown = take_more block j n within ∙ ap (λ (q : ℕ). take j block ++ q ∷ []) (sym at)
