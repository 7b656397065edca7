-- Proves how requests that are performed one after another add to their report.
use Rattle.std.proofs.Common.{arith, ◌≡◌, ◌∙◌, sym, ap, refl, subst, ℕ, ◌+◌, ◌<◌, ◌≤◌, List, [], ◌∷◌, ◌++◌, length, map}
use Rattle.std.proofs.Common.{append_assoc, append-nil, Bool, true, false, inl, inr, fold, length-append, Ok, codes}
use Rattle.std.proofs.lemmas.Grind.{flat_map-append}
use Rattle.std.proofs.lemmas.List.{map-append, length-map}
use Rattle.std.specs.List.{join_with_byte}
use Rattle.serde_json.specs.Data.{Data, array}
use Rattle.serde_json.specs.View.{items_of}
use Rattle.thes_tables.specs.declared.change.Change.{Change}
use Rattle.thes_requests.specs.ChangeTexts.{change_text, items_text, list_opening}
use Rattle.thes_requests.specs.EachSteps.{IsNewReport, IsReplyOf, RunsFront, ServesFront, ServesNext}
use Rattle.thes_requests.specs.LineTexts.{line_item_text}
use Rattle.thes_requests.specs.PlanForms.{each_limit, IsEachArray}
use Rattle.thes_requests.specs.PlanTexts.{separator_before}
use Rattle.thes_requests.specs.RequestBehaviour.{RequestBehaviour}
use Rattle.thes_requests.specs.ScriptEnds.{end_after_answer, end_without_lines}
use Rattle.thes_requests.specs.Serving.{RunsEach, ServesEach, ServesElement, is_fault}
use Rattle.thes_requests.specs.declared.each.EachReport.{EachReport}
use Rattle.thes_requests.specs.declared.line_serving.LineAnswer.{LineAnswer}
use Rattle.thes_requests.specs.declared.plan_reply.PlanReply.{PlanReply}
use Rattle.thes_requests.specs.declared.script.ScriptEnd.{ScriptEnd}
use Rattle.thes_requests.proofs.ChangeTextLemmas.{list_of}
use Rattle.thes_requests.specs.Tree.{items_view, view}
use Rattle.thes_requests.specs.declared.tree.Value.{Value}
use Rattle.thes_requests.proofs.PlanReadingLemmas.{same_array, same_items}
use Rattle.thes_requests.proofs.PlanTextLemmas.{join_more}

module _ {S : Type 0} (d : RequestBehaviour S) where
  -- One more request, which isn't answered with a fault.
  front_more : (old mid new : S) (values : List Data) (answers : List LineAnswer) (changes : List Change)
      (value : Data) (answer : LineAnswer) (more : List Change) → RunsFront d old values answers changes mid
      → ServesElement d mid value answer more new → is_fault answer ≡ false
      → RunsFront d old (values ++ value ∷ []) (answers ++ answer ∷ []) (changes ++ more) new
  front_more old mid new [] [] changes value answer more runs serves fine = (
    new,
    more,
    [],
    ap (λ (cs : List Change). cs ++ more) runs.0 ∙ sym (append-nil more),
    subst (λ (s : S). ServesElement d s value answer more new) runs.1 serves,
    fine,
    (refl, refl),
  )
  front_more old mid new [] (a ∷ answers) changes value answer more runs serves fine = absurd runs
  front_more old mid new (v ∷ values) [] changes value answer more runs serves fine = absurd runs
  front_more old mid new (v ∷ values) (a ∷ answers) changes value answer more
      (s, first, rest, is, did, clear, runs) serves fine = (
        s,
        first,
        rest ++ more,
        ap (λ (cs : List Change). cs ++ more) is ∙ append_assoc first rest more,
        did,
        clear,
        front_more s mid new values answers rest value answer more runs serves fine,
      )

  -- Requests without a fault are a whole run.
  front_all : (old new : S) (values : List Data) (answers : List LineAnswer) (changes : List Change)
      → RunsFront d old values answers changes new → RunsEach d old values answers changes new
  front_all old new [] [] changes runs = runs
  front_all old new [] (a ∷ answers) changes runs = absurd runs
  front_all old new (v ∷ values) [] changes runs = absurd runs
  front_all old new (v ∷ values) (a ∷ answers) changes (s, first, rest, is, did, clear, runs) =
      (s, first, rest, is, did, inr (clear, front_all s new values answers rest runs))

  -- Requests without a fault, and one that is answered with a fault, are a run of all, whatever comes after.
  front_last : (old mid new : S) (values : List Data) (answers : List LineAnswer) (changes : List Change)
      (value : Data) (after : List Data) (answer : LineAnswer) (more : List Change)
      → RunsFront d old values answers changes mid → ServesElement d mid value answer more new
      → is_fault answer ≡ true
      → RunsEach d old (values ++ value ∷ after) (answers ++ answer ∷ []) (changes ++ more) new
  front_last old mid new [] [] changes value after answer more runs serves last = (
    new,
    more,
    [],
    ap (λ (cs : List Change). cs ++ more) runs.0 ∙ sym (append-nil more),
    subst (λ (s : S). ServesElement d s value answer more new) runs.1 serves,
    inl (last, refl, refl, refl),
  )
  front_last old mid new [] (a ∷ answers) changes value after answer more runs serves last = absurd runs
  front_last old mid new (v ∷ values) [] changes value after answer more runs serves last = absurd runs
  front_last old mid new (v ∷ values) (a ∷ answers) changes value after answer more
      (s, first, rest, is, did, clear, runs) serves last = (
        s,
        first,
        rest ++ more,
        ap (λ (cs : List Change). cs ++ more) is ∙ append_assoc first rest more,
        did,
        inr (clear, front_last s mid new values answers rest value after answer more runs serves last),
      )

  -- A report that has no answer yet is that of no requests.
  pub front_without : (old : S) (report : EachReport) (left : ℕ) → IsNewReport report left
      → ServesFront d old [] left report old
  front_without old report left b = record {
    answers = [];
    changes = [];
    runs = (refl, refl);
    each = refl;
    list = b.list;
    line = b.line;
    count = b.count;
    summary = b.summary;
    room = b.room;
  }

ends_more : (e : ScriptEnd) (answers : List LineAnswer) (a : LineAnswer)
    → fold end_after_answer e (answers ++ a ∷ []) ≡ end_after_answer (fold end_after_answer e answers) a
ends_more e [] a = refl
ends_more e (x ∷ answers) a = ends_more (end_after_answer e x) answers a

-- The line and the list of a report after one more answer.
line_more : (opening line line' : List ℕ) (answers : List LineAnswer) (a : LineAnswer) (count : ℕ)
    → line ≡ opening ++ join_with_byte 44 (map line_item_text answers) → count ≡ length answers
    → line' ≡ line ++ (separator_before count ++ line_item_text a)
    → line' ≡ opening ++ join_with_byte 44 (map line_item_text (answers ++ a ∷ []))
line_more opening line line' answers a count is counts more =
    more ∙ (λ i. is i ++ (separator_before ((counts ∙ sym (length-map answers line_item_text)) i) ++ line_item_text a))
    ∙ append_assoc opening (join_with_byte 44 (map line_item_text answers))
    (separator_before (length (map line_item_text answers)) ++ line_item_text a)
    ∙ ap (λ (t : List ℕ). opening ++ t) (sym (join_more (map line_item_text answers) (line_item_text a))
    ∙ ap (join_with_byte 44) (sym (map-append line_item_text answers (a ∷ []))))

list_more : (opening list list' : List ℕ) (changes more : List Change) → list ≡ opening ++ items_text changes
    → list' ≡ list ++ items_text more → list' ≡ opening ++ items_text (changes ++ more)
list_more opening list list' changes more is got =
    got ∙ ap (λ (t : List ℕ). t ++ items_text more) is
    ∙ append_assoc opening (items_text changes) (items_text more)
    ∙ ap (λ (t : List ℕ). opening ++ t) (sym (flat_map-append (λ (c : Change). change_text c ++ 44 ∷ []) changes more))

module _ {S : Type 0} (d : RequestBehaviour S) (old mid new : S) (values : List Data) (value : Data) (before left : ℕ)
    (report report' : EachReport) where
  module _ (front : ServesFront d old values before report mid) where
    abbrev Answers : LineAnswer → List LineAnswer
    Answers a = front.answers ++ a ∷ []

    counts : (a : LineAnswer) → report'.count ≡ report.count + 1 → report'.count ≡ length (Answers a)
    counts a one =
        let h = front.count in
        let len = length-append front.answers (a ∷ []) in
        omega (arith, h, len, one)

    -- One more request was performed, and isn't answered with a fault.
    pub next : ServesNext d mid value left report false report' new
        → ServesFront d old (values ++ value ∷ []) left report' new
    next n = record {
      answers = Answers n.answer;
      changes = front.changes ++ n.changes;
      runs = front_more d old mid new values front.answers front.changes value n.answer n.changes front.runs n.serves
          (sym n.fault);
      each =
          let a = length-append front.answers (n.answer ∷ []) in
          let b = length-append values (value ∷ []) in
          let h = front.each in
          omega (arith, a, b, h);
      list = list_more list_opening report.list report'.list front.changes n.changes front.list n.list;
      line = line_more (codes "],\"each\":[") report.line.items report'.line.items front.answers n.answer report.count
          front.line front.count n.line;
      count = counts n.answer n.count;
      summary = n.summary ∙ ap (λ (e : ScriptEnd). end_after_answer e n.answer) front.summary
          ∙ sym (ends_more end_without_lines front.answers n.answer);
      room = n.room;
    }

    -- The last request was performed, which is answered with a fault.
    pub last : (after : List Data) (reply : PlanReply) → 0 < length (values ++ value ∷ after)
        → length (values ++ value ∷ after) ≤ each_limit → ServesNext d mid value left report true report' new
        → IsReplyOf report' reply
        → ServesEach d old (array (items_of (values ++ value ∷ after))) (Ok reply) new
    last after reply some few n is =
        subst (λ (r : PlanReply). ServesEach d old (array (items_of (values ++ value ∷ after))) (Ok r) new) (sym is) (
          values ++ value ∷ after,
          Answers n.answer,
          front.changes ++ n.changes,
          record { is_array = refl; some = some; few = few },
          front_last d old mid new values front.answers front.changes value after n.answer n.changes front.runs
              n.serves (sym n.fault),
          λ i. record {
            changes = list_of (front.changes ++ n.changes) report'.list
                (list_more list_opening report.list report'.list front.changes n.changes front.list n.list) i;
            answers = (ap (λ (t : List ℕ). t ++ codes "]}\n") (line_more (codes "],\"each\":[") report.line.items
                report'.line.items front.answers n.answer report.count front.line front.count n.line)
                ∙ append_assoc (codes "],\"each\":[")
                (join_with_byte 44 (map line_item_text (Answers n.answer))) (codes "]}\n")) i;
            end = (n.summary ∙ ap (λ (e : ScriptEnd). end_after_answer e n.answer) front.summary
                ∙ sym (ends_more end_without_lines front.answers n.answer)) i;
          },
        )

-- All requests were performed, and none is answered with a fault.
pub all : {S : Type 0} (d : RequestBehaviour S) (old new : S) (values : List Data) (left : ℕ) (report : EachReport)
    (reply : PlanReply) → ServesFront d old values left report new → 0 < length values → length values ≤ each_limit
    → IsReplyOf report reply → ServesEach d old (array (items_of values)) (Ok reply) new
all {S} d old new values left report reply front some few is =
    subst (λ (r : PlanReply). ServesEach d old (array (items_of values)) (Ok r) new) (sym is) (
      values,
      front.answers,
      front.changes,
      record { is_array = refl; some = some; few = few },
      front_all d old new values front.answers front.changes front.runs,
      λ i. record {
        changes = list_of front.changes report.list front.list i;
        answers = (ap (λ (t : List ℕ). t ++ codes "]}\n") front.line
            ∙ append_assoc (codes "],\"each\":[") (join_with_byte 44 (map line_item_text front.answers)) (codes "]}\n"))
            i;
        end = front.summary i;
      },
    )

module _ {S : Type 0} (d : RequestBehaviour S) (old mid new : S) (yielded : List Value) (v : Value) (before left : ℕ)
    (report report' : EachReport) (front : ServesFront d old (map view yielded) before report mid) (is_last : Bool)
    (n : ServesNext d mid (view v) left report is_last report' new) where
  -- One more value was served, and its answer isn't a fault.
  pub next_value : is_last ≡ false → ServesFront d old (map view (yielded ++ v ∷ [])) left report' new
  next_value clear = subst (λ (ds : List Data). ServesFront d old ds left report' new)
      (sym (map-append view yielded (v ∷ [])))
      (next d old mid new (map view yielded) (view v) before left report report' front
      (subst (λ (b : Bool). ServesNext d mid (view v) left report b report' new) clear n))

  -- The last value was served, whose answer is a fault.
  pub last_value : (rest values : List Value) (reply : PlanReply) → yielded ++ v ∷ rest ≡ values → 0 < length values
      → length values ≤ each_limit → is_last ≡ true → IsReplyOf report' reply
      → ServesEach d old (array (items_view values)) (Ok reply) new
  last_value rest values reply is some few sure replies =
      let views : map view yielded ++ view v ∷ map view rest ≡ map view values =
      sym (map-append view yielded (v ∷ rest)) ∙ ap (map view) is in
      let count : length (map view yielded ++ view v ∷ map view rest) ≡ length values =
      ap length views ∙ length-map values view in
      subst (λ (ds : List Data). ServesEach d old (array (items_of ds)) (Ok reply) new) views
      (last d old mid new (map view yielded) (view v) before left report report' front (map view rest) reply
      (omega (arith, count, some)) (omega (arith, count, few))
      (subst (λ (b : Bool). ServesNext d mid (view v) left report b report' new) sure n) replies)

none_left : (values : List Value) → length values ≡ 0 → values ≡ []
none_left [] h = refl
none_left (v ∷ values) h = absurd (omega (arith, h))

-- All values were served, and no answer is a fault.
pub all_values : {S : Type 0} (d : RequestBehaviour S) (old new : S) (yielded rest values : List Value) (left : ℕ)
    (report : EachReport) (reply : PlanReply) → ServesFront d old (map view yielded) left report new
    → yielded ++ rest ≡ values → length rest ≡ 0 → 0 < length values → length values ≤ each_limit
    → IsReplyOf report reply
    → ServesEach d old (array (items_view values)) (Ok reply) new
all_values {S} d old new yielded rest values left report reply front is none some few replies =
    let whole : yielded ≡ values =
    sym (append-nil yielded) ∙ ap (λ (r : List Value). yielded ++ r) (sym (none_left rest none)) ∙ is in
    let count : length (map view values) ≡ length values = length-map values view in
    all d old new (map view values) left report reply
    (subst (λ (vs : List Value). ServesFront d old (map view vs) left report new) whole front)
    (omega (arith, count, some)) (omega (arith, count, few)) replies

-- An array of no values, or of more than 1,024, isn't one of requests to be performed each by itself.
pub each_array_length : (vs : List Value) (ds : List Data) → IsEachArray (array (items_view vs)) ds
    → (0 < length vs) × (length vs ≤ each_limit)
each_array_length vs ds h =
    let same = same_items (map view vs) ds (same_array (items_of (map view vs)) (items_of ds) h.is_array) in
    let len = sym (ap length same) ∙ length-map vs view in
    let some = h.some in
    let few = h.few in
    (omega (arith, len, some), omega (arith, len, few))
