-- Proves that reading members one by one, and joining them, has the outcome of their row in the
-- table of requests.
use Rattle.std.proofs.lemmas.Grind.{common_steps}
use Rattle.std.proofs.Common.{arith, ◌≡◌, ◌≢◌, ◌∙◌, refl, sym, subst, ap, ℕ, Bool, false, Option, None, Some, Result}
use Rattle.std.proofs.Common.{Ok, Err, List, option_and_then}
use Rattle.std.specs.Prelude.{if◌then◌else◌, ⊤, codes}
use Rattle.serde_json.specs.Data.{Data, Num}
use Rattle.serde_json.specs.Find.{as_object}
use Rattle.thes_base.specs.Data.{LabelData, label_value_kind, label_value_text}
use Rattle.thes_base.specs.Texts.{IsLabelText}
use Rattle.thes_base.specs.declared.data.LabelKind.{LabelKind}
use Rattle.thes_base.specs.declared.data.LabelValue.{LabelValue}
use Rattle.thes_base.specs.declared.fault.FormFault.{FormFault}
use Rattle.thes_base.specs.declared.fault.FormFault.TheVariants.{BadShape, BadText}
use Rattle.thes_base.specs.declared.fault.ReadStop.{ReadStop}
use Rattle.thes_base.specs.declared.fault.ReadStop.TheVariants.{Form}
use Rattle.thes_requests.specs.Keywords.{label_kind_named}
use Rattle.thes_requests.specs.Members.{has_count, counted_members, number_in, text_in}
use Rattle.thes_requests.specs.MemberReadings.{is_value_fault, both, if_exact, IsStoppedEarly, ReadsMember, both_found}
use Rattle.thes_requests.specs.MemberReadings.{pair_of, row, a_label_value, label_value_of}
use Rattle.thes_requests.specs.Readings.{RequestReading, reads, fails, unless, Gives, ◌>>=◌, value_if}
use Rattle.thes_requests.specs.Readings.{present_or_bad_shape}
use Rattle.thes_requests.specs.Requests.{Member, number_form, tag_form, label_text_form, number_at, a_tag, label_line}
use Rattle.thes_requests.specs.Requests.{map_reading, members1, members2, members3, members4}
use Rattle.thes_requests.proofs.ReadingLemmas.{gives_value, gives_fault}

-- A form fault for which `is_form_stop` is false is `BadShape`.
early_fault : (f : FormFault) → is_value_fault (Form f) ≡ false → f ≡ BadShape
early_fault f h = grind (arith, common_steps)

gives_reads : {A : Type 0} (x : A) → Gives (reads x) (Ok x)
gives_reads x = record { value = λ y e. ap (λ w. Ok w) (let q : y ≡ x = cc in q); fault = λ f e. cc }

gives_early : {A : Type 0} (e : ReadStop) → is_value_fault e ≡ false → Gives {A = A} (fails BadShape) (Err e)
gives_early e h = grind (arith, common_steps, early_fault)

module _ {A B : Type 0} where
  early_if_first : (r : Result A ReadStop) (s : Result B ReadStop) → IsStoppedEarly r → IsStoppedEarly (both r s)
  early_if_first (Ok a) s h = let j = h.1 in cc
  early_if_first (Err e) (Ok b) h = grind (arith, common_steps)
  early_if_first (Err e) (Err f) h = grind (arith, common_steps)

  early_if_second : (r : Result A ReadStop) (s : Result B ReadStop) → IsStoppedEarly s → IsStoppedEarly (both r s)
  early_if_second r s h = grind (arith, common_steps)

  abbrev pair_reading : RequestReading A → RequestReading B → RequestReading (A × B)
  pair_reading ra rb = ra >>= (λ a. rb >>= (λ b. reads (a, b)))

  abbrev GivesPair : RequestReading (A × B) → Result (A × B) ReadStop → Type 0
  GivesPair reading q = Gives reading q × (q ≢ Err (Form BadShape))

  gives_both : (ra : RequestReading A) (rb : RequestReading B) (r : Result A ReadStop) (s : Result B ReadStop)
      → Gives ra r → Gives rb s → r ≢ Err (Form BadShape) → s ≢ Err (Form BadShape)
      → GivesPair (pair_reading ra rb) (both r s)
  gives_both ra rb r s h k i j = grind (arith, common_steps, gives_value, gives_reads, gives_fault, early_fault)

module _ {X A Y B : Type 0} (m : Member X A) (n : Member Y B) (d : Data) (r : Result A ReadStop)
    (s : Result B ReadStop) (h : ReadsMember m d r) (k : ReadsMember n d s) where
  absent_pair : (o : Option X) (p : Option Y) → m.found d ≡ o → n.found d ≡ p → both_found o p ≡ None
      → IsStoppedEarly (both r s)
  absent_pair o p e f q = grind (arith, common_steps, early_if_first, early_if_second)

  present_pair : (o : Option X) (p : Option Y) (z : X × Y) → m.found d ≡ o → n.found d ≡ p
      → both_found o p ≡ Some z → GivesPair ((pair_of m n).form z) (both r s)
  present_pair None p z e f q = cc
  present_pair (Some x) None z e f q = cc
  present_pair (Some x) (Some y) z e f q =
      let same : (x, y) ≡ z = cc in
      subst (λ w. GivesPair ((pair_of m n).form w) (both r s)) same
      (let i = h.present x e in let j = k.present y f in
      gives_both (m.form x) (n.form y) r s i.0 j.0 i.1 j.1)

  -- Two members that are read one by one, and joined, are read as a pair.
  pub reads_pair : ReadsMember (pair_of m n) d (both r s)
  reads_pair = record {
    absent = λ q. absent_pair (m.found d) (n.found d) refl refl q;
    present = λ z q. present_pair (m.found d) (n.found d) z refl refl q;
  }

-- The result of reading a request, made from the result of reading its members.
abbrev pub request_result : {A C : Type 0} → (A → C) → Result A ReadStop → Result C ReadStop
request_result makes (Ok a) = Ok (makes a)
request_result makes (Err e) = Err e

-- If rules read a value, the request made from the value is read by the same rules.
pub gives_mapped : {A C : Type 0} (makes : A → C) (reading : RequestReading A) (r : Result A ReadStop)
    (q : Result C ReadStop) → Gives reading r → q ≡ request_result makes r → Gives (map_reading makes reading) q
unfolding map_reading
gives_mapped makes reading r q h e = grind (arith, common_steps, gives_value, gives_reads, gives_fault)

abbrev counted_if : Bool → Option ⊤
counted_if exact = if exact then Some tt else None

module _ {X A C : Type 0} (count : ℕ) (makes : A → C) (m : Member X A) (d : Data) (r : Result A ReadStop)
    (h : ReadsMember m d r) where
  abbrev row_of : Bool → Option X → RequestReading C
  row_of exact found =
      present_or_bad_shape (counted_if exact) >>= (λ _. present_or_bad_shape found >>= (λ x. m.form x
      >>= (λ a. reads (makes a))))

  gives_row_of : (b : Bool) (o : Option X) (q : Result A ReadStop) → m.found d ≡ o → r ≡ q
      → Gives (row_of b o) (request_result makes (if_exact b q))
  gives_row_of b o q e f = grind (arith, common_steps, gives_early, gives_value, gives_reads, gives_fault)

  -- A row is read by reading its member and counting the names of the object.
  gives_row : (q : Result C ReadStop) → q ≡ request_result makes (if_exact (has_count count (as_object d)) r)
      → Gives (row count makes m d) q
  gives_row q e = rw e (gives_row_of (has_count count (as_object d)) (m.found d) r refl refl)

bind_bind : {A B C : Type 0} (r : RequestReading A) (f : A → RequestReading B) (g : B → RequestReading C)
    → (r >>= f) >>= g ≡ r >>= (λ a. f a >>= g)
bind_bind (reads x) f g = refl
bind_bind (fails e) f g = refl
bind_bind (unless rule e rest) f g = ap (unless rule e) (bind_bind rest f g)

bind_same : {A B : Type 0} (r : RequestReading A) (f g : A → RequestReading B) → ((a : A) → f a ≡ g a)
    → r >>= f ≡ r >>= g
bind_same (reads x) f g h = h x
bind_same (fails e) f g h = refl
bind_same (unless rule e rest) f g h = ap (unless rule e) (bind_same rest f g h)

-- Reading a pair is reading its first member, and then its second.
pair_then : {A B C : Type 0} (ra : RequestReading A) (rb : RequestReading B) (g : A × B → RequestReading C)
    → pair_reading ra rb >>= g ≡ ra >>= (λ a. rb >>= (λ b. g (a, b)))
pair_then ra rb g = bind_bind ra _ g ∙ bind_same ra _ _ (λ a. bind_bind rb _ g)

-- A row with one member is read by reading the member and counting the names of the object.
pub gives_line1 : {X A C : Type 0} (makes : A → C) (m : Member X A) (d : Data) (r : Result A ReadStop)
    (q : Result C ReadStop) → ReadsMember m d r → q ≡ request_result makes (if_exact (has_count 2 (as_object d)) r)
    → Gives (members1 makes m d) q
unfolding members1
gives_line1 makes m d r q h e = gives_row 2 makes m d r h q e

-- A row with two members is read by reading a pair.

module _ {X A Y B C : Type 0} (makes : A → B → C) (m : Member X A) (n : Member Y B) (d : Data) where
  same2 : (c : Option ⊤) (o : Option X) (p : Option Y)
      → present_or_bad_shape c >>= (λ _. present_or_bad_shape o >>= (λ x. present_or_bad_shape p >>= (λ y. m.form x
      >>= (λ a. n.form y >>= (λ b. reads (makes a b))))))
      ≡ present_or_bad_shape c >>= (λ _. present_or_bad_shape (both_found o p) >>= (λ z. pair_reading (m.form z.0)
      (n.form z.1) >>= (λ q. reads (makes q.0 q.1))))
  same2 c o p = grind (arith, common_steps, pair_then)

  line2_is : members2 makes m n d ≡ row 3 (λ p. makes p.0 p.1) (pair_of m n) d
  unfolding members2
  line2_is = same2 (counted_members 3 d) (m.found d) (n.found d)

  pub gives_line2 : (r : Result (A × B) ReadStop) (q : Result C ReadStop) → ReadsMember (pair_of m n) d r
      → q ≡ request_result (λ p. makes p.0 p.1) (if_exact (has_count 3 (as_object d)) r)
      → Gives (members2 makes m n d) q
  gives_line2 r q h e = rw line2_is (gives_row 3 (λ p. makes p.0 p.1) (pair_of m n) d r h q e)

-- A row with three members is read by reading two pairs.

module _ {X A Y B Z E C : Type 0} (makes : A → B → E → C) (m : Member X A) (n : Member Y B) (o : Member Z E)
    (d : Data) where
  abbrev makes3 : A × (B × E) → C
  makes3 p = makes p.0 p.1.0 p.1.1

  same3 : (c : Option ⊤) (x : Option X) (y : Option Y) (z : Option Z)
      → present_or_bad_shape c >>= (λ _. present_or_bad_shape x >>= (λ x. present_or_bad_shape y >>= (λ y.
      present_or_bad_shape z >>= (λ z. m.form x >>= (λ a. n.form y >>= (λ b. o.form z >>= (λ e.
      reads (makes a b e))))))))
      ≡ present_or_bad_shape c >>= (λ _. present_or_bad_shape (both_found x (both_found y z)) >>= (λ w.
      pair_reading (m.form w.0) (pair_reading (n.form w.1.0) (o.form w.1.1)) >>= (λ q. reads (makes3 q))))
  same3 c x y z = grind (arith, common_steps, pair_then, bind_same)

  line3_is : members3 makes m n o d ≡ row 4 makes3 (pair_of m (pair_of n o)) d
  unfolding members3
  line3_is = same3 (counted_members 4 d) (m.found d) (n.found d) (o.found d)

  pub gives_line3 : (r : Result (A × (B × E)) ReadStop) (q : Result C ReadStop)
      → ReadsMember (pair_of m (pair_of n o)) d r
      → q ≡ request_result makes3 (if_exact (has_count 4 (as_object d)) r) → Gives (members3 makes m n o d) q
  gives_line3 r q h e = rw line3_is (gives_row 4 makes3 (pair_of m (pair_of n o)) d r h q e)

-- A row with four members is read by joining its first three members into one, and that one with the fourth.

module _ {X A Y B Z E U F C : Type 0} (makes : A → B → E → F → C) (m : Member X A) (n : Member Y B) (o : Member Z E)
    (p : Member U F) (d : Data) where
  abbrev makes4 : (A × (B × E)) × F → C
  makes4 q = makes q.0.0 q.0.1.0 q.0.1.1 q.1

  abbrev member4 : Member ((X × (Y × Z)) × U) ((A × (B × E)) × F)
  member4 = pair_of (pair_of m (pair_of n o)) p

  same4 : (c : Option ⊤) (x : Option X) (y : Option Y) (z : Option Z) (u : Option U)
      → present_or_bad_shape c >>= (λ _. present_or_bad_shape x >>= (λ x. present_or_bad_shape y >>= (λ y.
      present_or_bad_shape z >>= (λ z. present_or_bad_shape u >>= (λ u. m.form x >>= (λ a. n.form y >>= (λ b.
      o.form z >>= (λ e. p.form u >>= (λ f. reads (makes a b e f))))))))))
      ≡ present_or_bad_shape c >>= (λ _. present_or_bad_shape (both_found (both_found x (both_found y z)) u)
      >>= (λ w. member4.form w >>= (λ q. reads (makes4 q))))
  same4 None x y z u = refl
  same4 (Some c) None y z u = refl
  same4 (Some c) (Some x) None z u = refl
  same4 (Some c) (Some x) (Some y) None u = refl
  same4 (Some c) (Some x) (Some y) (Some z) None = refl
  same4 (Some c) (Some x) (Some y) (Some z) (Some u) =
      sym (pair_then (pair_reading (m.form x) (pair_reading (n.form y) (o.form z))) (p.form u)
      (λ q. reads (makes4 q))
      ∙ (pair_then (m.form x) (pair_reading (n.form y) (o.form z))
      (λ q. p.form u >>= (λ f. reads (makes q.0 q.1.0 q.1.1 f)))
      ∙ bind_same (m.form x) _ _ (λ a. pair_then (n.form y) (o.form z)
      (λ q. p.form u >>= (λ f. reads (makes a q.0 q.1 f))))))

  line4_is : members4 makes m n o p d ≡ row 5 makes4 member4 d
  unfolding members4
  line4_is = same4 (counted_members 5 d) (m.found d) (n.found d) (o.found d) (p.found d)

  pub gives_line4 : (r : Result ((A × (B × E)) × F) ReadStop) (q : Result C ReadStop) → ReadsMember member4 d r
      → q ≡ request_result makes4 (if_exact (has_count 5 (as_object d)) r) → Gives (members4 makes m n o p d) q
  gives_line4 r q h e = rw line4_is (gives_row 5 makes4 member4 d r h q e)

-- The row of a label is read by reading its kind and text as one member.

abbrev label_made : ℕ × (List ℕ × LabelValue) → ℕ × LabelData
label_made q = (q.0, record { kind = label_value_kind q.1.1; tag = q.1.0; text = label_value_text q.1.1 })

abbrev label_member : Member (Num × (List ℕ × (LabelKind × List ℕ))) (ℕ × (List ℕ × LabelValue))
label_member = pair_of (number_at (codes "owner")) (pair_of a_tag a_label_value)

abbrev label_forms : Num → List ℕ → LabelKind → List ℕ → RequestReading (ℕ × LabelData)
label_forms owner tag kind text =
    number_form owner >>= (λ n. tag_form tag >>= (λ t. label_text_form kind text >>= (λ x.
    reads (n, record { kind = kind; tag = t; text = x }))))

label_forms_are : (owner : Num) (tag : List ℕ) (kind : LabelKind) (text : List ℕ)
    → label_forms owner tag kind text
    ≡ number_form owner >>= (λ n. tag_form tag >>= (λ t. value_if (IsLabelText kind text) BadText
    (label_value_of kind text) >>= (λ v. reads (label_made (n, (t, v))))))
label_forms_are owner tag kind text = grind (arith, common_steps)

same_label : (c : Option ⊤) (owner : Option Num) (kind : Option LabelKind) (tag text : Option (List ℕ))
    → present_or_bad_shape c >>= (λ _. present_or_bad_shape owner >>= (λ o. present_or_bad_shape kind >>= (λ k.
    present_or_bad_shape tag >>= (λ t. present_or_bad_shape text >>= (λ x. label_forms o t k x)))))
    ≡ present_or_bad_shape c >>= (λ _. present_or_bad_shape (both_found owner (both_found tag (both_found kind text)))
    >>= (λ w. label_member.form w >>= (λ q. reads (label_made q))))
same_label c o k t x = grind (arith, common_steps, label_forms_are, pair_then, bind_same)

label_line_is : (d : Data) → label_line d ≡ row 5 label_made label_member d
unfolding label_line
label_line_is d =
    same_label (counted_members 5 d) (number_in (codes "owner") d)
    (option_and_then label_kind_named (text_in (codes "kind") d)) (text_in (codes "tag") d) (text_in (codes "text") d)

pub gives_label : (d : Data) (r : Result (ℕ × (List ℕ × LabelValue)) ReadStop) (q : Result (ℕ × LabelData) ReadStop)
    → ReadsMember label_member d r → q ≡ request_result label_made (if_exact (has_count 5 (as_object d)) r)
    → Gives (label_line d) q
gives_label d r q h e = rw (label_line_is d) (gives_row 5 label_made label_member d r h q e)
