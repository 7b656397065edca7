-- The first colon of an IRI ends its scheme.
use Rattle.std.specs.Prelude.{◌≡◌, ℕ, ◌≤◌, ◌<◌, ◌==◌, ◌↔◌, Bool, false, List, [], ◌∷◌, ◌++◌, length, refl}
use Rattle.std.specs.List.{slice_split, position_or_len, before_first, after_first, join_with_byte}
use Rattle.std.proofs.Common.{arith, ap, sym, ◌∙◌, subst}
use Rattle.std.proofs.Math.ListN.{get_or}
use Rattle.std.proofs.lemmas.Bool.Decides.{nat_tests}
use Rattle.std.proofs.lemmas.List.Splits.{slice_split_none, slice_split_first, slice_split_at, length-slice_split}
use Rattle.std.proofs.lemmas.List.Splits.{join_with_byte-slice_split}
use Rattle.std.proofs.lemmas.List.Sums.{fails_before_first, passes_at_first, split_at_first}
use Rattle.thes_base.specs.Forms.{IsSchemeByte, IsIriScheme, IsIriRest, IsIriWithin}

abbrev is_colon : ℕ → Bool
is_colon b = b == 58

scheme_byte : (b : ℕ) → IsSchemeByte b → is_colon b ≡ false
scheme_byte b of = grind (arith, nat_tests)

-- The first part of an IRI that is split at its colons is its scheme.
cut_own : (most : ℕ) (text : List ℕ) → (iri : IsIriWithin most text) → slice_split is_colon text ≡ iri.scheme
    ∷ slice_split is_colon iri.rest
cut_own most text iri = ap (slice_split is_colon) iri.spelled ∙ slice_split_at is_colon iri.scheme 58 iri.rest
    (λ k d below. scheme_byte _ (iri.named.each k d below)) refl

-- A text without a colon is no IRI.
pub no_colon : (most : ℕ) (text : List ℕ) → position_or_len is_colon text ≡ length text → ¬ IsIriWithin most text
no_colon most text none iri =
    let whole : slice_split is_colon text ≡ text ∷ [] =
    slice_split_none is_colon text (λ k d below. fails_before_first is_colon text k d (omega arith)) in
    let none : [] ≡ slice_split is_colon iri.rest = cc (cut_own most text iri) in
    absurd (omega (arith, ap length none, length-slice_split is_colon iri.rest))

-- A text with a colon is an IRI exactly when the part before the first colon is a scheme, and the part after it may
-- follow a scheme.
pub cut_iri : (most : ℕ) (text scheme rest : List ℕ) → length text ≤ most → position_or_len is_colon text
    < length text → scheme ≡ before_first is_colon text → rest ≡ after_first is_colon text → IsIriWithin most text
    ↔ (IsIriScheme scheme × IsIriRest rest)
cut_iri most text scheme rest short found front back =
    let cut : slice_split is_colon text ≡ scheme ∷ slice_split is_colon rest =
    rw (front, back) (slice_split_first is_colon text 0 found) in
    let colon : get_or text (position_or_len is_colon text) 0 ≡ 58 =
    (let passes = passes_at_first is_colon text 0 found in grind (arith, nat_tests)) in
    let spelled : text ≡ scheme ++ 58 ∷ rest = split_at_first is_colon text 0 found
    ∙ (rw (front, back, colon) refl) in (
      λ iri. same most text scheme rest iri (cut_own most text iri) cut,
      λ parts. record {
        short = short;
        scheme =
            scheme;
        rest = rest;
        spelled = spelled;
        named = parts.0;
        more = parts.1;
      },
    )
  where
    same : (most : ℕ) (text scheme rest : List ℕ) (iri : IsIriWithin most text) → slice_split is_colon text
        ≡ iri.scheme ∷ slice_split is_colon iri.rest → slice_split is_colon text ≡ scheme ∷ slice_split is_colon rest
        → IsIriScheme scheme × IsIriRest rest
    same most text scheme rest iri own cut =
        let front : iri.scheme ≡ scheme = cc in
        let back : slice_split is_colon iri.rest ≡ slice_split is_colon rest = cc in
        let joined : iri.rest ≡ rest = sym (join_with_byte-slice_split 58 iri.rest) ∙ ap (join_with_byte 58) back
        ∙ join_with_byte-slice_split 58 rest in
        (subst IsIriScheme front iri.named, subst IsIriRest joined iri.more)
