use Rattle.std.proofs.Common.{◌∙◌, ◌++◌, ◌∷◌, [], sym, ap, subst, Bool, append_assoc, codes}
use Rattle.thes_core.specs.CoreView.{with_histories}
use Rattle.thes_core.specs.Terms.{term_text}
use Rattle.thes_display.specs.Alphabetical.{AreLinesOf, AreTexts, IsEntryOf, entry_line, symbols}
use Rattle.thes_display.proofs.entry.write_entry.Goals as goal

-- The text appended for a concept is its entry.
pub returns-in_ok-write_symbols : goal.returns-in_ok-write_symbols
returns-in_ok-write_symbols c =
    let shown = c.args.heading.now.term.text in
    let a = c.in_ok-write_symbols.ensures in
    let s = with_histories [] c.args.source.now.core.now in
    let tag = c.args.source.now.tag.now in
    record {
      addition = shown ++ (10 ∷ a.addition);
      one = subst (λ (b : Bool). IsEntryOf s tag b
          c.args.heading.now.term (shown ++ (10 ∷ a.addition))) (sym c.if-heading.false) (
            a.addition,
            subst (λ n. AreTexts (AreLinesOf s tag n) symbols
                a.addition) (c.in_ok-sides.ensures.concept ∙ c.concept-n.ensures) a.one,
            λ i. shown ++ (10 ∷ a.addition),
          );
      is = a.is ∙ ap (λ t. t ++ a.addition) (c.in_ok-push.ensures.items ∙ ap (λ t. t ++ 10 ∷ [])
          (c.in_ok-extend_from_slice.ensures.items ∙ ap (λ t. c.args.text.now.items ++ t) c.text.ensures))
          ∙ append_assoc (c.args.text.now.items ++ shown) (10 ∷ []) a.addition ∙ append_assoc c.args.text.now.items
          shown (10 ∷ a.addition);
    }

-- The text appended for a lead-in term is its entry.
pub returns-in_ok-write_use : goal.returns-in_ok-write_use
returns-in_ok-write_use c =
    let shown = c.args.heading.now.term.text in
    let used = term_text c.args.source.now.core.now.labels c.args.source.now.tag.now in
    let line = entry_line (codes "USE") (used c.args.heading.now.term.concept) in
    record {
      addition = shown ++ (10 ∷ line);
      one = subst (λ (b : Bool). IsEntryOf (with_histories [] c.args.source.now.core.now) c.args.source.now.tag.now b
          c.args.heading.now.term (shown ++ (10 ∷ line))) (sym c.if-heading.true) (λ i. shown ++ (10 ∷ line));
      is = c.in_ok-write_use.ensures
          ∙ ap (λ n. c.push.new.self.items ++ entry_line (codes "USE") (used n)) c.concept-n.ensures
          ∙ ap (λ t. t ++ line) (c.in_ok-push.ensures.items ∙ ap (λ t. t ++ 10 ∷ [])
          (c.in_ok-extend_from_slice.ensures.items ∙ ap (λ t. c.args.text.now.items ++ t) c.text.ensures))
          ∙ append_assoc (c.args.text.now.items ++ shown) (10 ∷ []) line ∙ append_assoc c.args.text.now.items
          shown (10 ∷ line);
    }
