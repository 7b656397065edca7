-- Rows that meet the rule of a table have the form of its rows.
use Rattle.std.proofs.lemmas.Grind.{common_steps}
use Rattle.std.proofs.Common.{◌≡◌, ◌<◌, ◌^◌, ℕ, length, List, refl, sym, subst, arith, ◌≢◌}
use Rattle.std.specs.Prelude.{Option, None, Some}
use Rattle.std.proofs.lemmas.Option.{same_Some}
use Rattle.thes_base.specs.declared.data.Resource.{Resource}
use Rattle.thes_base.specs.declared.data.ResourceKind.{ResourceKind}
use Rattle.thes_base.specs.declared.data.Link.{Link}
use Rattle.thes_base.specs.declared.data.Move.{Move}
use Rattle.thes_base.specs.Forms.{IsNumber}
use Rattle.thes_base.specs.Resources.{entry_at, IsScheme, IsConcept}
use Rattle.thes_base.specs.Labels.{Label}
use Rattle.thes_base.specs.Legal.{IsLegalResource, IsLegalLink, IsLegalMove}
use Rattle.thes_base.proofs.LabelSetLemmas.{labels_total, labels_exact}
use Rattle.thes_base.proofs.NumberedLemmas.{numbered_bound}
use Rattle.thes_base.proofs.ResourceLemmas.{owner_exists}
use Rattle.thes_tables.specs.declared.rows.HierRow.{HierRow}
use Rattle.thes_tables.specs.declared.rows.PostingRow.{PostingRow}
use Rattle.thes_tables.specs.declared.rows.MoveRow.{MoveRow}
use Rattle.thes_tables.specs.Tables.{IsIn, hier_link, recorded_move, moves_of}
use Rattle.thes_tables.proofs.MoveRowLemmas.{in_all}
use Rattle.thes_load_rules.specs.Rules.{ResourceRule, OutsideRule, LabelRule, LinkRule, HierRule, PostingRule, MoveRule}
use Rattle.thes_load_rules.proofs.RowListLemmas.{in_numbered, numbered_in, in_set}
use Rattle.thes_load_rules.proofs.LinkTableLemmas.{hier_held}
use Rattle.thes_load_rules.proofs.MoveCountLemmas.{row_of_move, move_of_row, all_of_in}
use Rattle.thes_load_rules.proofs.LoadedStateLemmas.{sources}
use Rattle.thes_load_rules.proofs.LegalTableLemmas.{row_iri}
use Rattle.thes_load_rows.specs.Forms.{IsNumberOrNone, HasResourceForm, HasOutsideForm, HasLabelForm, HasLinkForm}
use Rattle.thes_load_rows.specs.Forms.{HasHierForm, HasPostingForm, HasMoveForm}

number_of : {A : Type 0} (rows : List A) (n : ℕ) (x : A) → length rows < 2 ^ 32 → entry_at rows n ≡ Some x → IsNumber n
number_of rows n x few e = let b = numbered_bound rows n x e in (b.0, (let c = b.1 in omega (arith, c, few)))

module _ (rs : List Resource) (few : length rs < 2 ^ 32) where
  pub outside_form : (base : List ℕ) (rows : List (ℕ × List ℕ)) (x : ℕ × List ℕ) → OutsideRule base rs rows
      → IsIn x rows → HasOutsideForm x
  outside_form base rows x rule h = grind (arith, common_steps, number_of, row_iri)

  pub label_form : (rows : List Label) (l : Label) → LabelRule rs rows → IsIn l rows → HasLabelForm l
  label_form rows l rule h =
      let at = owner_exists rs l.owner (rule.legal.owners l (in_set labels_total labels_exact rows l h)) in
      (number_of rs l.owner at.0 few at.1, rule.forms l h)

  link_ends : (l : Link) → IsLegalLink rs l → IsNumber l.a × IsNumber l.b
  link_ends l legal = grind (arith, common_steps, number_of)

  pub link_form : (rows : List Link) (l : Link) → LinkRule rs rows → IsIn l rows → HasLinkForm l
  link_form rows l rule h = let ends = link_ends l (rule.each l h) in (rule.kinds l h, ends.0, ends.1)

  pub hier_form : (links : List Link) (rows : List HierRow) (row : HierRow) → HierRule rs links rows → IsIn row rows
      → HasHierForm row
  hier_form links rows row rule h =
      link_ends (hier_link row) (rule.legal.each (hier_link row) (hier_held links rows row h))

  pub posting_form : (rows : List PostingRow) (row : PostingRow) → PostingRule rs rows → IsIn row rows
      → HasPostingForm row
  posting_form rows row rule h = grind (arith, common_steps, in_numbered, number_of)

  -- Rows of table move that meet its rule have the form of its rows.
  pub move_form : (ps : List PostingRow) (rows : List MoveRow) (row : MoveRow) → PostingRule rs ps
      → MoveRule rs ps rows → IsIn row rows → HasMoveForm row
  move_form ps rows row posting rule h =
      let at = in_numbered rows row h in
      let p = rule.known row h in
      let there = numbered_in ps row.posting p.0 p.1 in
      let all = sources rs 0 p.0.first (moves_of p.0.number rows) (posting.concepts p.0 there).0
      (rule.well_formed p.0 there)
      (all_of_in _ (moves_of p.0.number rows) (λ m i. let r = row_of_move p.0.number m rows i in
      subst (λ (x : Move). IsConcept rs x.target × (x.source ≢ x.target)) r.3 (rule.ends r.0 r.1))) in
      let own = subst (λ n. IsIn (recorded_move row) (moves_of n rows)) (sym (posting.numbers row.posting p.0 p.1))
      (move_of_row rows row h) in
      let legal : IsLegalMove rs (recorded_move row) = in_all (IsLegalMove rs) (recorded_move row)
      (moves_of p.0.number rows) all own in (
        subst IsNumber (sym (rule.numbers at.0 row at.1)) (number_of rows at.0 row rule.few at.1),
        number_of ps row.posting p.0 posting.few p.1,
        number_of rs row.source legal.0.0 few legal.0.1,
        number_of rs row.target legal.1.0 few legal.1.1,
      )

-- Rows of table resource that meet its rule have the form of its rows.
pub resource_form : (others : List Resource) (n : ℕ) (y : Resource) → ResourceRule others → entry_at others n ≡ Some y
    → HasResourceForm (record { number = n; resource = y })
resource_form others n y rule e = (
  number_of others n y rule.few e,
  scheme y.kind y.scheme refl refl,
  replaced y.replaced refl,
)
  where
    legal : IsLegalResource others n y
    legal = rule.each n y e

    replaced : (o : Option ℕ) → y.replaced ≡ o → IsNumberOrNone o
    replaced None is = tt
    replaced (Some m) is = let by = (legal.replaced m is).2 in number_of others m by.0 rule.few by.1

    of_scheme : (o : Option ℕ) → y.scheme ≡ o → (m : ℕ) × (y.scheme ≡ Some m) × IsScheme others m → IsNumberOrNone o
    of_scheme o is at = grind (arith, common_steps, number_of, same_Some)

    scheme : (k : ResourceKind) (o : Option ℕ) → y.kind ≡ k → y.scheme ≡ o → IsNumberOrNone o
    scheme k o kind is = grind (arith, common_steps, legal, of_scheme)
