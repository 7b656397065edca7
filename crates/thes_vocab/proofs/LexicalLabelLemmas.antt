-- A list has a text as a lexical label exactly when one of its labels is lexical and has this text in the language.
use Rattle.std.proofs.lemmas.Grind.{common_steps}
use Rattle.std.proofs.Common.{◌≡◌, ◌∙◌, List, ℕ, sym, ap, true, ◌&&◌, arith}
use Rattle.std.specs.Prelude.{nat_eq}
use Rattle.std.specs.Cmp.{both_ways, tied_itself}
use Rattle.std.specs.Cmp.Lexicographic.{pointwise, texts_ties, same_text}
use Rattle.std.specs.List.{list_any}
use Rattle.std.specs.Ordering.{is_eq}
use Rattle.std.proofs.lemmas.Bool.{or_cases, or_left, or_right, and_from, and_parts}
use Rattle.std.proofs.lemmas.Cmp.{nat_list_cmp_total}
use Rattle.thes_base.specs.declared.data.LabelKind.{LabelKind}
use Rattle.thes_base.specs.Data.{LabelData}
use Rattle.thes_base.specs.Labels.{is_lexical_kind}
use Rattle.thes_vocab.specs.OwnLabels.{own_label, has_own}
use Rattle.thes_vocab.specs.CopiedLabels.{has_own_name, is_name}
use Rattle.thes_vocab.proofs.OwnLabelLemmas.{any_found, any_of}

text_itself : (xs : List ℕ) → pointwise nat_eq xs xs ≡ true
text_itself xs = texts_ties xs xs ∙ ap is_eq (tied_itself nat_list_cmp_total xs)

module _ (tag text : List ℕ) where
  -- A label that passes the test `is_name` is lexical and has the text in the language.
  named : (l : LabelData) → is_name tag text l ≡ true → (l ≡ own_label l.kind tag text) × (is_lexical_kind l.kind
      ≡ true)
  named l hit =
      let parts = and_parts (pointwise nat_eq l.text text) (pointwise nat_eq l.tag tag && is_lexical_kind l.kind) hit in
      let rest = and_parts (pointwise nat_eq l.tag tag) (is_lexical_kind l.kind) parts.1 in
      let here = same_text l.text text (sym parts.0) in
      let there = same_text l.tag tag (sym rest.0) in (λ i. own_label l.kind (there i) (here i), rest.1)

  in_one : (own : List LabelData) (k : LabelKind) → is_lexical_kind k ≡ true → has_own own (own_label k tag text)
      ≡ true → has_own_name own tag text ≡ true
  in_one own k lexical has = grind (arith, common_steps, or_left, or_right)

  passes : (k : LabelKind) → is_lexical_kind k ≡ true → is_name tag text (own_label k tag text) ≡ true
  passes k lexical = and_from _ _ (text_itself text) (and_from _ _ (text_itself tag) lexical)

  pub any_name : (own : List LabelData) → list_any (is_name tag text) own ≡ has_own_name own tag text
  any_name own = both_ways _ _ there back
    where
      there : list_any (is_name tag text) own ≡ true → has_own_name own tag text ≡ true
      there e =
          let found = any_found (is_name tag text) own e in
          let is = named found.0 found.1 in
          in_one own found.0.kind is.1 (ap (has_own own) (sym is.0) ∙ found.2)

      one : (k : LabelKind) → is_lexical_kind k ≡ true → has_own own (own_label k tag text) ≡ true
          → list_any (is_name tag text) own ≡ true
      one k lexical has = any_of (is_name tag text) own (own_label k tag text) (passes k lexical) has

      back : has_own_name own tag text ≡ true → list_any (is_name tag text) own ≡ true
      back e = grind (arith, common_steps, one, or_cases)
