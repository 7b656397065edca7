-- One pass down the hierarchy finds which nodes of a block are at or above each node.
use Rattle.std.proofs.lemmas.Grind.{common_steps}
use Rattle.std.proofs.Common.{◌≡◌, ◌⊎◌, inl, inr, ◌↔◌, ◌+◌, ◌*◌, ◌^◌, ◌%◌, ◌<◌, ◌≤◌, ℕ, zero, suc, List, [], ◌∷◌, ◌++◌}
use Rattle.std.proofs.Common.{Contains, Some, length, take, get_or, slice_get, max, refl, sym, ap, subst, ◌∙◌}
use Rattle.std.proofs.Common.{arith, w64}
use Rattle.std.specs.Int.{bit_at}
use Rattle.std.specs.Int.RustNames.{bit_or}
use Rattle.std.proofs.lemmas.Bool.{cases_eq}
use Rattle.std.proofs.lemmas.List.{take_more, take_all}
use Rattle.std.proofs.lemmas.List.Elements.{Contains-append_left, Contains-push, Contains-push_cases, Contains-get_or}
use Rattle.std.proofs.lemmas.Nat.Bits.{bit_at-lt, bit_at-zero, bit_at_or, bit_at_set_same, bit_at_set_other}
use Rattle.std.proofs.lemmas.Option.{slice_get_within}
use Rattle.thes_base.specs.Links.{Links, Holds, Chain, IsNarrower}
use Rattle.thes_base.proofs.ListMemberLemmas.{Contains-none}
use Rattle.thes_graph.specs.declared.find_cycle.PathNode.{PathNode}
use Rattle.thes_links.specs.Steps.{Reaches}
use Rattle.thes_links.specs.Rules.{ReachesUp}
use Rattle.thes_links.specs.Words.{word_at, HasBit, HasBitsSet}
use Rattle.thes_graph.specs.UpperSets.{AreUpwardRows, AreUpperSets}
use Rattle.thes_links.proofs.PivotLemmas.{Chain-one, Chain-then_reach}
use Rattle.thes_links.proofs.WordLemmas.{word_same, word_other}

from_max : (a b : ℕ) → a < 2 → b < 2 → max a b ≡ 1 → (a ≡ 1) ⊎ (b ≡ 1)
from_max (suc zero) b _ _ e = inl refl
from_max a (suc zero) _ _ e = inr refl
from_max zero zero _ _ e = absurd (omega arith)
from_max (suc (suc a)) b small _ e = absurd (omega arith)
from_max a (suc (suc b)) _ small e = absurd (omega arith)

max_first : (b : ℕ) → b < 2 → max 1 b ≡ 1
max_first zero small = refl
max_first (suc zero) small = refl
max_first (suc (suc b)) small = absurd (omega arith)

max_second : (a : ℕ) → a < 2 → max a 1 ≡ 1
max_second zero small = refl
max_second (suc zero) small = refl
max_second (suc (suc a)) small = absurd (omega arith)

module _ (v w j : ℕ) where
  or_bit-from : bit_at (bit_or v w) j ≡ 1 → (bit_at v j ≡ 1) ⊎ (bit_at w j ≡ 1)
  or_bit-from has = from_max (bit_at v j) (bit_at w j) (bit_at-lt v j) (bit_at-lt w j) (sym (bit_at_or v w j) ∙ has)

  or_bit-first : bit_at v j ≡ 1 → bit_at (bit_or v w) j ≡ 1
  or_bit-first has = bit_at_or v w j ∙ ap (λ (a : ℕ). max a (bit_at w j)) has ∙ max_first (bit_at w j) (bit_at-lt w j)

  or_bit-second : bit_at w j ≡ 1 → bit_at (bit_or v w) j ≡ 1
  or_bit-second has = bit_at_or v w j ∙ ap (λ (b : ℕ). max (bit_at v j) b) has ∙ max_second (bit_at v j) (bit_at-lt v j)

module _ (old new : List ℕ) (n bits : ℕ) (set : HasBitsSet old new n bits) where
  bits_set-from : (m j : ℕ) → HasBit new m j → HasBit old m j ⊎ ((n ≡ m) × (bit_at bits j ≡ 1))
  bits_set-from m j has = grind (arith, common_steps, cases_eq, or_bit-from, word_other, word_same)

  bits_set-keeps : (m j : ℕ) → HasBit old m j → HasBit new m j
  bits_set-keeps m j has = grind (arith, common_steps, cases_eq, or_bit-first, word_other, word_same)

  bits_set-new : (m j : ℕ) → n ≡ m → bit_at bits j ≡ 1 → HasBit new m j
  bits_set-new m j same has =
      ap (λ (w : ℕ). bit_at w j) (word_same old new n bits set m (sym same)) ∙ or_bit-second (word_at old m) bits j has

-- The state while the bits of a block are set at the start: each of the first k nodes of the block has its own bit set
-- in its word, and no other bit is set.
abbrev pub AreStarted : (words block : List ℕ) → ℕ → Type 0
AreStarted words block k = (m i : ℕ) → HasBit words m i ↔ ((i < k) × (slice_get block i ≡ Some m))

pub AreStarted-none : (words block : List ℕ) → words ≡ [] → AreStarted words block 0
AreStarted-none words block none m i = grind (arith, common_steps, bit_at-zero)

pub AreStarted-more : (old new block : List ℕ) (k n : ℕ) → k < 64 → slice_get block k ≡ Some n
    → HasBitsSet old new n (1 * 2 ^ k % 2 ^ 64) → AreStarted old block k → AreStarted new block (k + 1)
AreStarted-more old new block k n small at set before m i =
    elim (cases_eq m n) [
      | inl same ↦ elim (cases_eq i k) [
        | inl here ↦ (
          (λ has. (omega arith, ap (slice_get block) here ∙ at ∙ ap (λ (x : ℕ). Some x) (sym same))),
          (λ both. ap (λ (w : ℕ). bit_at w i) (word_same old new n _ set m same)
              ∙ ap (λ (q : ℕ). bit_at (bit_or (word_at old m) (1 * 2 ^ k % 2 ^ 64)) q) here
              ∙ bit_at_set_same w64 (word_at old m) k small),
        )
        | inr off ↦ stays (ap (λ (w : ℕ). bit_at w i) (word_same old new n _ set m same)
            ∙ bit_at_set_other w64 (word_at old m) k small i off) (λ here _. off here)
      ]
      | inr other ↦ stays (ap (λ (w : ℕ). bit_at w i) (word_other old new n _ set m other))
          (λ here is. other (let e : Some m ≡ Some n = sym is ∙ ap (slice_get block) here ∙ at in cc))
    ]
  where
    stays : bit_at (word_at new m) i ≡ bit_at (word_at old m) i → (i ≡ k → slice_get block i ≡ Some m → ⊥)
        → HasBit new m i ↔ ((i < k + 1) × (slice_get block i ≡ Some m))
    stays e off = (
      (λ has. let b = (before m i).0 (sym e ∙ has) in let lt : i < k = b.0 in (omega arith, b.1)),
      (λ both. elim (cases_eq i k) [
        | inl here ↦ absurd (off here both.1)
        | inr apart ↦ let lt : i < k + 1 = both.0 in e ∙ (before m i).1 (omega arith, both.1)
      ]),
    )

pub bits_started : (words block : List ℕ) (k : ℕ) → length block ≤ k → AreStarted words block k → (n j : ℕ)
    → HasBit words n j ↔ (slice_get block j ≡ Some n)
bits_started words block k past started n j = grind (arith, common_steps, slice_get_within)

-- The new words are the old ones, with the bits of these nodes' words set in the word of n.
abbrev pub AreSetAbove : (old new : List ℕ) → (n : ℕ) → (above : List ℕ) → Type 0
AreSetAbove old new n above =
    (m j : ℕ) → HasBit new m j ↔ (HasBit old m j ⊎ ((n ≡ m) × ((h : ℕ) × Contains above h × HasBit old h j)))

pub AreSetAbove-none : (old : List ℕ) (n : ℕ) → AreSetAbove old old n []
AreSetAbove-none old n m j = grind (arith, common_steps, Contains-none)

pub AreSetAbove-more : (old now new : List ℕ) (n : ℕ) (above : List ℕ) (k h bits : ℕ) → k < length above
    → h ≡ get_or above k h → bits ≡ word_at now h → HasBitsSet now new n bits → AreSetAbove old now n (take k above)
    → AreSetAbove old new n (take (k + 1) above)
AreSetAbove-more old now new n above k h bits within at is set before m j = (to, from)
  where
    grown : take (k + 1) above ≡ take k above ++ h ∷ []
    grown = take_more above k h within ∙ ap (λ (x : ℕ). take k above ++ x ∷ []) (sym at)

    keep : (g : ℕ) → Contains (take k above) g → Contains (take (k + 1) above) g
    keep g has = subst (λ (gs : List ℕ). Contains gs g) (sym grown) (Contains-append_left (take k above) (h ∷ []) g has)

    last : Contains (take (k + 1) above) h
    last = subst (λ (gs : List ℕ). Contains gs h) (sym grown) (Contains-push (take k above) h)

    more : (n ≡ m) × ((g : ℕ) × Contains (take k above) g × HasBit old g j)
        → HasBit old m j ⊎ ((n ≡ m) × ((g : ℕ) × Contains (take (k + 1) above) g × HasBit old g j))
    more new = inr (new.0, (new.1.0, keep new.1.0 new.1.1, new.1.2))

    to : HasBit new m j → HasBit old m j ⊎ ((n ≡ m) × ((g : ℕ) × Contains (take (k + 1) above) g × HasBit old g j))
    to has = elim (bits_set-from now new n bits set m j has) [
      | inl cur ↦ elim ((before m j).0 cur) [ inl first ↦ inl first | inr new ↦ more new ]
      | inr set ↦ elim ((before h j).0 (subst (λ (w : ℕ). bit_at w j ≡ 1) is set.1)) [
        | inl first ↦ inr (set.0, (h, last, first))
        | inr new ↦ more (set.0, new.1)
      ]
    ]

    from : HasBit old m j ⊎ ((n ≡ m) × ((g : ℕ) × Contains (take (k + 1) above) g × HasBit old g j)) → HasBit new m j
    from (inl first) = bits_set-keeps now new n bits set m j ((before m j).1 (inl first))
    from (inr (same, (g, has, bit))) = elim (Contains-push_cases (take k above) h g
        (subst (λ (gs : List ℕ). Contains gs g) grown has)) [
          | inl earlier ↦ bits_set-keeps now new n bits set m j ((before m j).1 (inr (same, (g, earlier, bit))))
          | inr now_last ↦ bits_set-new now new n bits set m j same (subst (λ (w : ℕ). bit_at w j ≡ 1) (sym is)
              ((before h j).1 (inl (subst (λ (q : ℕ). HasBit old q j) (sym now_last) bit))))
        ]

pub AreSetAbove-end : (old new : List ℕ) (n : ℕ) (above : List ℕ) (k : ℕ) → length above ≤ k
    → AreSetAbove old new n (take k above) → AreSetAbove old new n above
AreSetAbove-end old new n above k past set =
    subst (λ (hs : List ℕ). AreSetAbove old new n hs) (take_all k above past) set

-- A chain begins with a step.
Chain-first : {S : ℕ → ℕ → Type 0} → (x z : ℕ) → Chain S x z → (y : ℕ) × S x y × Reaches S y z
Chain-first x z ([], one) = (z, one, inl refl)
Chain-first x z (y ∷ ms, path) = (y, path.0, inr (ms, path.1))

-- The state of the pass: the words of the nodes with these rows are complete, those of other nodes have at least their
-- own bits, and no word has a wrong bit.
pub record AreFoundBelow (held : Links) (rows : List PathNode) (block words : List ℕ) : Type 0 where
  pub sound : (n j x : ℕ) → slice_get block j ≡ Some x → HasBit words n j → ReachesUp (Holds held) n x
  pub starts : (n j : ℕ) → slice_get block j ≡ Some n → HasBit words n j
  pub complete : (r : PathNode) → Contains rows r → (j x : ℕ) → slice_get block j ≡ Some x
      → ReachesUp (Holds held) r.node x → HasBit words r.node j

module _ (held : Links) (block : List ℕ) where
  abbrev S : ℕ → ℕ → Type 0
  S = IsNarrower (Holds held)

  pub AreFoundBelow-start : (words : List ℕ) → ((n j : ℕ) → HasBit words n j ↔ (slice_get block j ≡ Some n))
      → AreFoundBelow held [] block words
  AreFoundBelow-start words own = grind (arith, common_steps, Contains-none)

  module _ (rows : List PathNode) (all : AreUpwardRows held rows) where
    pub AreFoundBelow-more : (old new : List ℕ) (k : ℕ) (r : PathNode) → k < length rows → r ≡ get_or rows k r
        → AreSetAbove old new r.node r.above.items → AreFoundBelow held (take k rows) block old
        → AreFoundBelow held (take (k + 1) rows) block new
    AreFoundBelow-more old new k r within at set before = record {
      sound = λ n j x is has. elim ((set n j).0 has) [
        | inl first ↦ before.sound n j x is first
        | inr up ↦ subst (λ (v : ℕ). ReachesUp (Holds held) v x) up.0 (inr (Chain-then_reach S r.node up.1.0 x
            (Chain-one S r.node up.1.0 ((all.broader r here up.1.0).0 up.1.1)) (before.sound up.1.0 j x is up.1.2)))
      ];
      starts = λ n j is. (set n j).1 (inl (before.starts n j is));
      complete = λ q has j x is reach. elim (Contains-push_cases (take k rows) r q
          (subst (λ (rs : List PathNode). Contains rs q) grown has)) [
            | inl earlier ↦ (set q.node j).1 (inl (before.complete q earlier j x is reach))
            | inr last ↦ subst (λ (p : PathNode). HasBit new p.node j) last (of_row j x is
                (subst (λ (p : PathNode). ReachesUp (Holds held) p.node x) (sym last) reach))
          ];
    }
      where
        here : Contains rows r
        here = subst (λ (q : PathNode). Contains rows q) (sym at) (Contains-get_or rows k r within)

        grown : take (k + 1) rows ≡ take k rows ++ r ∷ []
        grown = take_more rows k r within ∙ ap (λ (q : PathNode). take k rows ++ q ∷ []) (sym at)

        above : (j x h : ℕ) → slice_get block j ≡ Some x → S r.node h → ReachesUp (Holds held) h x → HasBit new r.node j
        above j x h is up reach =
            let in_row = (all.broader r here h).1 up in
            let q = all.above_first k r within h (subst (λ (p : PathNode). Contains p.above.items h) at in_row) in
            (set r.node j).1 (inr (
              refl,
              (
                h,
                in_row,
                subst (λ (v : ℕ). HasBit old v j) q.2 (before.complete q.0 q.1 j x is
                    (subst (λ (v : ℕ). ReachesUp (Holds held) v x) (sym q.2) reach)),
              ),
            ))

        of_row : (j x : ℕ) → slice_get block j ≡ Some x → ReachesUp (Holds held) r.node x → HasBit new r.node j
        of_row j x is (inl same) =
            (set r.node j).1 (inl (before.starts r.node j (is ∙ ap (λ (y : ℕ). Some y) (sym same))))
        of_row j x is (inr chain) = let one = Chain-first {S = S} r.node x chain in above j x one.0 is one.1 one.2

    pub sets_found : (words : List ℕ) (k : ℕ) → length rows ≤ k → AreFoundBelow held (take k rows) block words
        → AreUpperSets held block words
    sets_found words k past state n j x is = (state.sound n j x is, from)
      where
        from : ReachesUp (Holds held) n x → HasBit words n j
        from (inl same) = state.starts n j (is ∙ ap (λ (y : ℕ). Some y) (sym same))
        from (inr chain) =
            let one = Chain-first {S = S} n x chain in
            let r = all.complete n one.0 one.1 in
            subst (λ (v : ℕ). HasBit words v j) r.2
            (state.complete r.0 (subst (λ (rs : List PathNode). Contains rs r.0) (sym (take_all k rows past)) r.1) j x
            is (subst (λ (v : ℕ). ReachesUp (Holds held) v x) (sym r.2) (inr chain)))
