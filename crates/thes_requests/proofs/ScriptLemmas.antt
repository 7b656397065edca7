-- Proves the progress of a script line by line, and each way in which a script can end.
use Rattle.std.proofs.lemmas.Grind.{common_steps}
use Rattle.std.proofs.Common.{◌≡◌, ◌≢◌, ◌⊎◌, inl, inr, ◌∙◌, sym, ap, refl, subst, ℕ, ◌+◌, ◌<◌, ◌≤◌, ◌↔◌, List, [], ◌∷◌}
use Rattle.std.proofs.Common.{◌++◌, length, length-append, take, Bool, true, false, Option, Result, Err, arith}
use Rattle.std.proofs.KnownBytes.{Appends-trans, Appends-nil, Consumes-trans, Consumes-nil, Consumes-kept, Keeps-refl}
use Rattle.std.proofs.lemmas.List.Elements.{All-push, All-nil, All-head, All-tail}
use Rattle.std.specs.List.{All}
use Rattle.std.specs.Io.KnownBytes.{Consumes, IsAtEnd, prepend_known}
use Rattle.thes_base.specs.Pipe.{failed_of, ended_of, denied_of, unread_bytes, written_bytes, reading_fault}
use Rattle.thes_base.specs.Pipe.{AppendsPrefix}
use Rattle.thes_base.specs.declared.fault.Fault.TheVariants.{OutOfMemory}
use Rattle.thes_base.specs.declared.pipe.Stop.{Stop}
use Rattle.thes_base.specs.declared.pipe.Stop.TheVariants as stops
use Rattle.thes_base.specs.declared.fault.PipeFault.{PipeFault}
use Rattle.thes_base.specs.declared.fault.PipeFault.TheVariants.{Read, Write, TooLong, Fault}
use Rattle.thes_base.specs.declared.pipe.Pipe.{Pipe}
use Rattle.thes_requests.specs.LineBuffer.{bytes_left, line_bytes, line_content, line_limit, ConsumesLine}
use Rattle.thes_requests.specs.LineBuffer.{ConsumesPartOfLine, IsLineTooLong, IsEndFound, StopsInLine}
use Rattle.thes_base.specs.PipeFrames.{ReadFrame}
use Rattle.thes_requests.specs.Serving.{LineBehaviour}
use Rattle.thes_requests.specs.Script.{StepLine, RunLines, AreAllowed, lines_limit, EndsLine, raw_lines, ServesLines}
use Rattle.thes_requests.specs.Script.{outcome_text, script_text, end_of_outcomes}
use Rattle.thes_requests.specs.ScriptEnds.{end_after_outcome, end_without_lines}
use Rattle.thes_requests.specs.Script.{Session, session, StopsWithinAnswer, ExceedsLimits, IsCause, Completes, Stops}
use Rattle.thes_requests.specs.ScriptSteps.{OutcomeWritten, StopsWithOutcome, ScriptProgress}
use Rattle.thes_requests.specs.declared.script.ScriptEnd.{ScriptEnd}
use Rattle.thes_requests.specs.declared.line_serving.LineOutcome.{LineOutcome}
use Rattle.thes_requests.proofs.LineLemmas.{lines-more, raw_lines-more, line_whole, ends_line_after_line}

-- One more line adds its outcome, its effect and its answer to those of the lines before.

run_one_more : {S : Type 0} (serves : LineBehaviour S) (old : S) (done : List (List ℕ))
    (line_outcomes : List LineOutcome) (mid new : S) (line : List ℕ) (f : LineOutcome)
    → RunLines serves old done line_outcomes mid → StepLine serves mid line f new
    → RunLines serves old (done ++ line ∷ []) (line_outcomes ++ f ∷ []) new
run_one_more {S} serves old [] [] mid new line f r s = grind (arith, common_steps)
run_one_more serves old [] (p ∷ line_outcomes) mid new line f r s = absurd r
run_one_more serves old (l ∷ done) [] mid new line f r s = absurd r
run_one_more serves old (l ∷ done) (p ∷ line_outcomes) mid new line f r s =
    (r.0, r.1, run_one_more serves r.0 done line_outcomes mid new line f r.2 s)

allowed_one_more : (whole : List (List ℕ)) (raw : List ℕ) → AreAllowed whole → length whole < lines_limit → length raw
    ≤ line_limit → AreAllowed (whole ++ raw ∷ [])
allowed_one_more whole raw a few short = grind (arith, common_steps, All-push)

text_one_more : (line_outcomes : List LineOutcome) (f : LineOutcome) → script_text (line_outcomes ++ f ∷ [])
    ≡ script_text line_outcomes ++ outcome_text f
text_one_more line_outcomes f = grind (arith, common_steps)

end_one_more : (line_outcomes : List LineOutcome) (f : LineOutcome) → end_of_outcomes (line_outcomes ++ f ∷ [])
    ≡ end_after_outcome (end_of_outcomes line_outcomes) f
end_one_more line_outcomes f = grind (arith, common_steps)

-- The last line of an input isn't empty, if no line feed ends it.
some_last : {old new : Option (List ℕ)} {raw : List ℕ} {e : Bool} → ConsumesLine old new raw e → e ≡ true → raw ≢ []
some_last k ended = let l = k.last ended in l.0

serves_one_more : {S : Type 0} {serves : LineBehaviour S} {bytes : List ℕ} {line_outcomes : List LineOutcome}
    {old mid new : S} {before after : Option (List ℕ)} {raw : List ℕ} {e : Bool} (line_outcome : LineOutcome)
    → ServesLines serves bytes line_outcomes old mid → EndsLine bytes → length (raw_lines bytes) < lines_limit
    → ConsumesLine before after raw e → StepLine serves mid (line_content raw e) line_outcome new
    → ServesLines serves (bytes ++ line_bytes raw e) (line_outcomes ++ line_outcome ∷ []) old new
serves_one_more line_outcome s whole few k step =
    grind (arith, common_steps, raw_lines-more, some_last, allowed_one_more, lines-more, run_one_more)

-- Before the first line there are no outcomes and no output.

serves_no_lines : {S : Type 0} (serves : LineBehaviour S) (handler : S) → ServesLines serves [] [] handler handler
serves_no_lines serves handler = grind (arith, common_steps, All-nil)

-- If the buffer is empty, the bytes left are those of the reader.
nothing_buffered : (known : Option (List ℕ)) → Consumes known (prepend_known [] known) []
nothing_buffered known = grind (arith, common_steps)

-- At the end of the input no byte is left in the buffer, so all bytes of the reader have been consumed.

nil_right : (xs ys : List ℕ) → xs ++ ys ≡ [] → ys ≡ []
nil_right [] ys h = h
nil_right (x ∷ xs) ys h = cc

all_taken : (known rest : Option (List ℕ)) (held bytes : List ℕ) → Consumes known (prepend_known held rest) bytes
    → IsAtEnd (prepend_known held rest) → Consumes known rest bytes × IsAtEnd rest
all_taken known rest held bytes k e = grind (arith, common_steps, nil_right)

last_holds : {X : Type 0} (P : X → Type 0) (xs : List X) (x : X) → All P (xs ++ x ∷ []) → P x
last_holds P [] x h = All-head P x [] h
last_holds P (y ∷ xs) x h = last_holds P xs x (All-tail P y (xs ++ x ∷ []) h)

module _ {R W S : Type 0} (remaining : R → Option (List ℕ)) (contents : W → Option (List ℕ)) (serves : LineBehaviour S)
    (is_open : S → Bool) where
  -- Before the first line, the progress is that of no bytes consumed and no bytes written.
  pub progress_start : (reader : Pipe R) (writer : Pipe W) (handler : S) (held : List ℕ) (count : ℕ) (ended : ScriptEnd)
      → ended_of reader ≡ false → held ≡ [] → count ≡ 0 → ended ≡ end_without_lines
      → ScriptProgress remaining contents serves (session reader writer handler) (session reader writer handler) held
      count ended
  progress_start reader writer handler held count ended goes h c e = record {
    bytes = [];
    taken = rw h (nothing_buffered (unread_bytes remaining reader));
    whole = λ _. inl refl;
    last = λ t. let f = goes in cc;
    line_outcomes = [];
    lines = serves_no_lines serves handler;
    line_count = sym c;
    text = Appends-nil (written_bytes contents writer);
    noted_end = e;
  }

  module _ {old : Session R W S} {reader : Pipe R} {writer : Pipe W} {handler : S} {held : List ℕ} {count : ℕ}
      {ended : ScriptEnd}
      (s : ScriptProgress remaining contents serves old (session reader writer handler) held count ended) where
    -- A line that was skipped or answered extends the progress.
    pub progress_line : (reader' : Pipe R) (writer' : Pipe W) (desk' : S) (held' : List ℕ) (ended' : ScriptEnd)
        (raw : List ℕ) (line_outcome : LineOutcome) → ended_of reader ≡ false → count < lines_limit
        → ConsumesLine (bytes_left remaining held reader) (bytes_left remaining held' reader') raw (ended_of reader')
        → StepLine serves handler (line_content raw (ended_of reader')) line_outcome desk'
        → OutcomeWritten contents is_open desk' writer writer' line_outcome ended ended'
        → ScriptProgress remaining contents serves old (session reader' writer' desk') held' (count + 1) ended'
    progress_line reader' writer' desk' held' ended' raw line_outcome goes few k step v =
        let whole = s.whole goes in
        let c = s.line_count in
        let line = line_bytes raw (ended_of reader') in record {
          bytes = s.bytes ++ line;
          taken = Consumes-trans (unread_bytes remaining old.reader) (bytes_left remaining held reader)
              (bytes_left remaining held' reader') s.bytes line s.taken k.bytes;
          whole = ends_line_after_line s.bytes raw (ended_of reader');
          last = λ t. let l = k.last t in l.1;
          line_outcomes = s.line_outcomes ++ line_outcome ∷ [];
          lines = serves_one_more line_outcome s.lines whole (omega (arith, c, few)) k step;
          line_count = rw (
            raw_lines-more s.bytes raw (ended_of reader') whole k.one (some_last k),
            length-append (raw_lines s.bytes) (raw ∷ []),
          ) (ap (λ n. n + 1) s.line_count);
          text = rw (text_one_more s.line_outcomes line_outcome) (Appends-trans (written_bytes contents old.writer)
              (written_bytes contents writer) (written_bytes contents writer') (script_text s.line_outcomes)
              (outcome_text line_outcome) s.text v.text);
          noted_end = v.noted_end ∙ (ap (λ x. end_after_outcome x line_outcome) s.noted_end
              ∙ sym (end_one_more s.line_outcomes line_outcome));
        }

    -- A script is complete if the search for its next line finds the end of the input.
    pub completes_at_end : (reader' : Pipe R) (held' : List ℕ) → IsEndFound (bytes_left remaining held reader)
        (bytes_left remaining held' reader') (ended_of reader') → failed_of reader' ≡ false → failed_of writer ≡ false
        → is_open handler ≡ true
        → Completes remaining contents serves is_open old (session reader' writer handler) ended
    completes_at_end reader' held' f r w o = grind (arith, common_steps, all_taken, Consumes-kept)

    -- A script is complete if its input ended with the last line, which then has no line feed.
    pub completes_after_last : ended_of reader ≡ true → failed_of reader ≡ false → failed_of writer ≡ false
        → is_open handler ≡ true → Completes remaining contents serves is_open old (session reader writer handler)
        ended
    completes_after_last e r w o = completes_at_end reader held (
      Keeps-refl (bytes_left remaining held reader),
      s.last e,
      e,
    ) r w o

    -- A script that has a cause to stop before its next line stops after the lines served so far.
    pub stops_between_lines : (reader' : Pipe R) (fault : PipeFault) → ended_of reader ≡ false
        → IsCause remaining contents serves is_open old (session reader' writer handler) fault s.bytes
        (bytes_left remaining held reader) s.line_outcomes
        → ((fault ≡ Read) ↔ (failed_of reader' ≡ true)) → ((fault ≡ Write) ↔ (failed_of writer ≡ true))
        → Stops remaining contents serves is_open old (session reader' writer handler) fault
    stops_between_lines reader' fault goes cause r w = grind (arith, common_steps)

    -- A script that stops at the answer to a line has served that line.
    pub stops_at_line : (reader' : Pipe R) (writer' : Pipe W) (desk' : S) (held' : List ℕ) (fault : PipeFault)
        (raw : List ℕ) (line_outcome : LineOutcome) → ended_of reader ≡ false → count < lines_limit
        → ConsumesLine (bytes_left remaining held reader) (bytes_left remaining held' reader') raw (ended_of reader')
        → failed_of reader' ≡ false → StepLine serves handler (line_content raw (ended_of reader')) line_outcome desk'
        → StopsWithOutcome contents is_open desk' writer writer' line_outcome fault
        → Stops remaining contents serves is_open old (session reader' writer' desk') fault
    stops_at_line reader' writer' desk' held' fault raw line_outcome goes few k fine step v =
        let whole = s.whole goes in let c = s.line_count in let line = line_bytes raw (ended_of reader') in record {
          served = s.bytes ++ line;
          rest = bytes_left remaining held' reader';
          taken = Consumes-trans (unread_bytes remaining old.reader) (bytes_left remaining held reader)
              (bytes_left remaining held' reader') s.bytes line s.taken k.bytes;
          whole = by_end (ended_of reader') (ends_line_after_line s.bytes raw (ended_of reader')) (λ t. let l =
              k.last t in l.1);
          line_outcomes = s.line_outcomes ++ line_outcome ∷ [];
          lines = serves_one_more line_outcome s.lines whole (omega (arith, c, few)) k step;
          cause = after fault v;
          read = never_read fault v;
          wrote = wrote_only fault v;
        }
      where
        by_end : (e : Bool) → (e ≡ false → EndsLine (s.bytes ++ line_bytes raw (ended_of reader')))
            → (e ≡ true → IsAtEnd (bytes_left remaining held' reader'))
            → EndsLine (s.bytes ++ line_bytes raw (ended_of reader'))
            ⊎ (IsAtEnd (bytes_left remaining held' reader') × (e ≡ true))
        by_end true f g = inr (g refl, refl)
        by_end false f g = inl (f refl)

        breaks_off : AppendsPrefix (written_bytes contents writer) (written_bytes contents writer')
            (outcome_text line_outcome) → StopsWithinAnswer remaining contents serves
            is_open old (session reader' writer' desk') (s.line_outcomes ++ line_outcome ∷ [])
        breaks_off f = record {
          before = s.line_outcomes;
          last = line_outcome;
          all = refl;
          count = f.count;
          within = f.within;
          text = Appends-trans (written_bytes contents old.writer) (written_bytes contents writer)
              (written_bytes contents writer') (script_text s.line_outcomes)
              (take f.count (outcome_text line_outcome)) s.text f.front;
        }

        after : (fault : PipeFault) → StopsWithOutcome contents is_open desk' writer writer' line_outcome fault
            → IsCause remaining contents serves is_open old (session reader' writer' desk') fault
            (s.bytes ++ line_bytes raw (ended_of reader')) (bytes_left remaining held' reader')
            (s.line_outcomes ++ line_outcome ∷ [])
        after Read h = absurd h
        after Write h = breaks_off h.0
        after TooLong h = inl (breaks_off h.0, h.2)
        after (Fault f) h = (
          rw (text_one_more s.line_outcomes line_outcome) (Appends-trans (written_bytes contents old.writer)
              (written_bytes contents writer) (written_bytes contents writer') (script_text s.line_outcomes)
              (outcome_text line_outcome) s.text h.0),
          h.2,
          inr h.3,
        )

        never_read : (fault : PipeFault) → StopsWithOutcome contents is_open desk' writer writer' line_outcome fault
            → (fault ≡ Read) ↔ (failed_of reader' ≡ true)
        never_read fault h = grind (arith, common_steps)

        wrote_only : (fault : PipeFault) → StopsWithOutcome contents is_open desk' writer writer' line_outcome fault
            → (fault ≡ Write) ↔ (failed_of writer' ≡ true)
        wrote_only fault h = grind (arith, common_steps)

    -- A reader that failed within a line is the cause of the stop.
    pub breaks_within_line : (reader' : Pipe R) → ConsumesPartOfLine (bytes_left remaining held reader)
        (unread_bytes remaining reader') → IsCause remaining contents serves is_open old
        (session reader' writer handler) Read s.bytes (bytes_left remaining held reader) s.line_outcomes
    breaks_within_line reader' p = grind (arith, common_steps, Consumes-trans)

    -- A next line longer than the limit exceeds the limits.
    pub exceeds_line_limit : ended_of reader ≡ false → IsLineTooLong (bytes_left remaining held reader)
        → ExceedsLimits s.bytes (bytes_left remaining held reader)
    exceeds_line_limit goes t =
        let some : t.raw ≢ [] = λ e. let none : length t.raw ≡ 0 = ap length e in let long = t.long in
        omega (arith, none, long) in
        let one : raw_lines t.raw ≡ t.raw ∷ [] = line_whole t.raw true t.one (λ _. some) in record {
          next = t.raw;
          bytes_left = t.rest;
          bytes = t.bytes;
          one = ap length one;
          next_not_allowed = λ a.
              let all : raw_lines (s.bytes ++ t.raw) ≡ raw_lines s.bytes ++ t.raw ∷ [] =
              raw_lines-more s.bytes t.raw true (s.whole goes) t.one (λ _. some) in
              let short = last_holds (λ line. length line ≤ line_limit) (raw_lines s.bytes) t.raw
              (subst (λ (w : List (List ℕ)). All (λ line. length line ≤ line_limit) w) all a.short) in
              let long = t.long in omega (arith, short, long);
        }

    -- A next line after the greatest number of lines exceeds the limits.
    pub exceeds_lines_limit : (reader' : Pipe R) (held' : List ℕ) (raw : List ℕ) (e : Bool) → ended_of reader ≡ false
        → count ≡ lines_limit → ConsumesLine (bytes_left remaining held reader) (bytes_left remaining held' reader')
        raw e → ExceedsLimits s.bytes (bytes_left remaining held reader)
    exceeds_lines_limit reader' held' raw e goes full k =
        grind (arith, common_steps, line_whole, some_last, raw_lines-more)

    -- If the search for a line fails, the script stops, because of the reader or of a limit.
    pub stops_at_read : (reader' : Pipe R) (held' : List ℕ) {T : Type 0} {before after : ℕ} (stop : Stop)
        → ended_of reader ≡ false
        → StopsInLine stop (bytes_left remaining held reader) (unread_bytes remaining reader') reader'
        (IsLineTooLong (bytes_left remaining held reader)
        ⊎ ((count ≡ lines_limit) × (raw : List ℕ) × ConsumesLine (bytes_left remaining held reader)
        (bytes_left remaining held' reader') raw (ended_of reader')))
        → ReadFrame reader reader' before after (let result : Result T Stop = Err stop in result)
        → failed_of writer ≡ false → Stops remaining contents serves is_open old (session reader' writer handler)
        (reading_fault stop)
    stops_at_read reader' held' stops.Failed goes why frame w = stops_between_lines reader' Read goes
        (breaks_within_line reader' (why.failure refl)) (λ e. frame.failure.0 refl, λ e. refl)
        (λ e. cc, λ e. let f = w in cc)
    stops_at_read reader' held' stops.TooLong goes why frame w = stops_between_lines reader' TooLong goes
        (inr (s.text, next_not_allowed (why.too_long refl))) (λ e. cc, λ e. let bad = frame.failure.1 e in cc)
        (λ e. cc, λ e. let f = w in cc)
      where
        next_not_allowed : (denied_of reader' ≡ true) ⊎ (IsLineTooLong (bytes_left remaining held reader)
            ⊎ ((count ≡ lines_limit) × (raw : List ℕ) × ConsumesLine (bytes_left remaining held reader)
            (bytes_left remaining held' reader') raw (ended_of reader')))
            → (denied_of reader' ≡ true) ⊎ ExceedsLimits s.bytes (bytes_left remaining held reader)
        next_not_allowed (inl denied) = inl denied
        next_not_allowed (inr (inl long)) = inr (exceeds_line_limit goes long)
        next_not_allowed (inr (inr full)) = inr (exceeds_lines_limit reader' held' full.1 (ended_of reader') goes
            full.0 full.2)

  -- Running out of memory before the first line stops the script without effect.
  pub stops_before_lines : (reader : Pipe R) (writer : Pipe W) (handler : S) → failed_of reader ≡ false
      → failed_of writer ≡ false
      → Stops remaining contents serves is_open (session reader writer handler) (session reader writer handler)
      (Fault OutOfMemory)
  stops_before_lines reader writer handler r w = record {
    served = [];
    rest = unread_bytes remaining reader;
    taken = Consumes-nil (unread_bytes remaining reader);
    whole = inl (inl refl);
    line_outcomes = [];
    lines = serves_no_lines serves handler;
    cause = (Appends-nil (written_bytes contents writer), refl, inl refl);
    read = (λ e. cc, λ e. cc);
    wrote = (λ e. cc, λ e. cc);
  }
