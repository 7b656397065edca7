-- Proves that the only reading of the export of a legal state is the state's triples.
use Rattle.std.proofs.lemmas.Grind.{common_steps}
use Rattle.std.proofs.Common.{◌≡◌, ◌∙◌, sym, ap, refl, subst, ℕ, List, [], ◌∷◌, ◌++◌, map, Contains, inl, inr, arith}
use Rattle.std.specs.List.{concat}
use Rattle.std.proofs.lemmas.Cmp.{nat_list_cmp_total}
use Rattle.thes_base.specs.Legal.{IsLegalState}
use Rattle.thes_base.specs.State.{State}
use Rattle.thes_base.specs.Triples.{Triple, IsAsserted}
use Rattle.thes_base.proofs.ListMemberLemmas.{Contains-none, Contains-head, Contains-later, Contains-cons_cases}
use Rattle.thes_base.proofs.ListMemberLemmas.{Contains-map, Contains-from_map}
use Rattle.thes_export.specs.NTriples.{IsDocument}
use Rattle.thes_export.specs.Spelling.{line_of, statement_of}
use Rattle.thes_export.specs.Export.{IsTripleLine, IsExport, IsReadAs}
use Rattle.thes_export.proofs.DocumentLemmas.{AllWritable, lines_text, document_same}
use Rattle.thes_export.proofs.SpellingLemmas.{lines_read, line_spelled, one_line}
use Rattle.thes_base.proofs.UniqueListingLemmas.{one_listing}
use Rattle.thes_export.proofs.LegalTripleLemmas.{asserted_writable}

module _ (base : List ℕ) (s : State) (legal : IsLegalState base s) where
  -- The lines are those of a list of triples of the state.
  record AreOf (lines : List (List ℕ)) : Type 0 where
    list : List Triple
    fine : AllWritable list
    text_is : concat lines ≡ lines_text list
    sound : (t : Triple) → Contains list t → IsAsserted base s t
    complete : (line : List ℕ) → Contains lines line → (t : Triple) × Contains list t × (line ≡ line_of t)

  -- The lines of an export are those of a list of triples that can be spelled.
  triples_found : (lines : List (List ℕ)) → ((line : List ℕ) → Contains lines line → IsTripleLine base s line)
      → AreOf lines
  triples_found [] each = grind (arith, common_steps, Contains-none)
  triples_found (line ∷ lines) each =
      let one = each line (Contains-head line lines) in
      let more = triples_found lines (λ l c. each l (Contains-later line lines l c)) in
      record {
        list = one.0 ∷ more.list;
        fine = (asserted_writable base s legal one.0 one.1, more.fine);
        text_is = (λ i. one.2 i ++ more.text_is i) ∙ line_spelled one.0 (lines_text more.list);
        sound = λ t c. elim (Contains-cons_cases one.0 more.list t c) [
          | inl e ↦ subst (IsAsserted base s) e one.1
          | inr d ↦ more.sound t d
        ];
        complete = λ l c. elim (Contains-cons_cases line lines l c) [
          | inl e ↦ (one.0, Contains-head one.0 more.list, sym e ∙ one.2)
          | inr d ↦ let w = more.complete l d in (w.0, Contains-later one.0 more.list w.0 w.1, w.2)
        ];
      }

  -- The only reading of an export of a legal state is exactly the state's triples.
  pub export_read : (text : List ℕ) → IsExport base s text → IsReadAs base s text
  export_read text export =
      let of = triples_found export.lines export.listed.sound in
      let text_is : text ≡ lines_text of.list = export.is ∙ of.text_is in
      record {
        content = map statement_of of.list;
        document = subst (λ x. IsDocument x (map statement_of of.list)) (sym text_is) (lines_read of.list of.fine);
        unique = λ others document. document_same of.list others text of.fine text_is document;
        exact = λ t. (
          λ c. let w = Contains-from_map statement_of of.list t c in (w.0, of.sound w.0 w.1, sym w.2),
          λ is.
              let w = of.complete (line_of is.0) (export.listed.complete (line_of is.0) (is.0, is.1, refl)) in
              let same = one_line is.0 w.0 (asserted_writable base s legal is.0 is.1)
              (asserted_writable base s legal w.0 (of.sound w.0 w.1)) w.2 in
              subst (Contains (map statement_of of.list)) (sym (is.2 ∙ same))
              (Contains-map statement_of of.list w.0 w.1),
        );
      }

pub one_text : (base : List ℕ) (s : State) (x y : List ℕ) → IsExport base s x → IsExport base s y → x ≡ y
one_text base s x y a b = a.is ∙ ap concat (one_listing nat_list_cmp_total a.lines b.lines a.listed b.listed) ∙ sym b.is
