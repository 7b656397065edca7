-- Proves that each row of the matches has a value that its rule accepts, if `clap` finds no fault.
use Rattle.std.proofs.lemmas.Grind.{common_steps}
use Rattle.std.proofs.Common.{arith, ◌≡◌, ◌⊎◌, ◌∙◌, ◌++◌, ap, sym, subst, refl, inl, ℕ, zero, suc, Bool, true, false, cond, List}
use Rattle.std.proofs.Common.{[], ◌∷◌, length, drop, Option, None, Some, true≢false}
use Rattle.std.specs.Prelude.{if◌then◌else◌, is_some, option_map, find, fold, slice_get, encode_utf8}
use Rattle.std.specs.Option.{option_map_or}
use Rattle.std.specs.Str.{bytes_eq, chars}
use Rattle.std.proofs.lemmas.Slice.Eq.{bytes_eq-Decides}
use Rattle.clap.specs.Lexer.{long_of, short_of}
use Rattle.clap.specs.Facts.{parser_of_value, unwrap_or_range}
use Rattle.clap.specs.Values.{read_as}
use Rattle.clap.specs.ValueTests.{accepts}
use Rattle.clap.specs.Walk.{Held, Names, Outcome, Row, Rule, Step, Text, Waiting, Walk, action_of, after_flag}
use Rattle.clap.specs.Walk.{attached_value, default_rows, has_row, takes_values}
use Rattle.clap.specs.Walk.{after_step, arg_by_id, arg_by_long, arg_by_short, at_row, bundle_met, bundle_step, done}
use Rattle.clap.specs.Walk.{first_of, flag_met, long_met, long_or_other, more_values, most_values, nothing_held, one_of}
use Rattle.clap.specs.Walk.{option_met, plain, plain_word, reacted, reading_by, rows_after, settled, settled_rows}
use Rattle.clap.specs.Walk.{short_met, short_or_plain, subcommand_or_other, trailing, used, used_as, used_by_id}
use Rattle.clap.specs.Walk.{values_or_missing, walk, walk_from, walked, with_default, with_values, without, word_met}
use Rattle.clap.specs.Simple.{Shape}
use Rattle.clap.specs.Takes.{is_given}
use Rattle.clap.specs.Kinds.{Kinds, check_kinds, or_else, range_kinds}
use Rattle.clap.specs.Faults.{action_fault, bundle_fault, bundle_step_fault, check_fault, flag_word_fault, flags_fault}
use Rattle.clap.specs.Faults.{level_fault, long_fault, option_fault, other_fault, react_fault, settle_fault}
use Rattle.clap.specs.Faults.{short_fault, step_fault, turn_fault, use_fault, walk_fault, word_fault}
use Rattle.clap.specs.declared.builder.action.ArgAction.{ArgAction}
use Rattle.clap.specs.declared.builder.action.ArgAction.TheVariants as action
use Rattle.clap.specs.declared.builder.value_parser.Reading.{Reading}
use Rattle.clap.specs.declared.error.kind.ErrorKind.{ErrorKind}
use Rattle.clap.specs.declared.error.kind.ErrorKind.TheVariants.{TooManyValues}
use Rattle.clap.specs.declared.parser.matches.ValueSource.{ValueSource}
use Rattle.clap.specs.declared.parser.matches.ValueSource.TheVariants.{CommandLine, DefaultValue}

-- If the combination of two faults is none, both are none.
pub both_none : (a b : Kinds) → or_else a b ≡ [] → (a ≡ []) × (b ≡ [])
both_none a b e = grind (arith, common_steps)

passes : (b : Bool) (k : ErrorKind) → cond b [] (k ∷ []) ≡ [] → b ≡ true
passes b k e = grind (arith, common_steps)

values_of_flag : (least most : ℕ) (vs : List Text) → most ≡ 0 → range_kinds least most (length vs) ≡ [] → vs ≡ []
values_of_flag least most [] none e = refl
values_of_flag least most (v ∷ vs) none e = grind (arith, common_steps)

no_value : (least most : ℕ) → least ≡ 1 → range_kinds least most 0 ≡ [] → ⊥
no_value least most one none = grind (arith, common_steps)

-- Assumes a property `Q` of the row of an option: of its identifier, the way it is read, and its
-- first value.
module _ (Q : Text → Reading → Text → Type 0) where
  abbrev Fits : Row → Type 0
  Fits r = (v : Text) × (rest : List Text) × (r.values ≡ v ∷ rest) × Q r.id r.reading v

  abbrev pub AllFit : List Row → Type 0
  AllFit [] = Unit {0}
  AllFit (r ∷ rows) = Fits r × AllFit rows

  -- The rule is of an option with one value, whose rows have the property `Q`; of a flag, whose row has it; or of an
  -- option that asks for help or version.
  abbrev Takes : ArgAction → Rule → Type 0
  Takes action.Set a = ((unwrap_or_range a.range).start_inclusive ≡ 1)
      × ((v : Text) → accepts a.ignore_case (parser_of_value a.parser) v ≡ true → Q a.id (reading_by a) v)
  Takes action.SetTrue a = (most_values a ≡ 0) × (v : Text) × (a.missing ≡ v ∷ []) × Q a.id (reading_by a) v
  Takes action.Help a = Unit {0}
  Takes action.Version a = Unit {0}
  Takes _ a = ⊥

  -- The rule has no default, or is of a flag, and the row of its default has the property.
  abbrev Defaults : ArgAction → Rule → Type 0
  Defaults action.SetTrue a = (v : Text) × (vs : List Text) × (a.defaults ≡ v ∷ vs) × Q a.id (reading_by a) v
  Defaults _ a = a.defaults ≡ []

  abbrev TakesRight : Rule → Type 0
  TakesRight a = Takes (action_of a) a × Defaults (action_of a) a

  abbrev pub AllTake : List Rule → Type 0
  AllTake [] = Unit {0}
  AllTake (a ∷ rules) = TakesRight a × AllTake rules

  found_rule : (p : Rule → Bool) (c : List Rule) (a : Rule) → AllTake c → find p c ≡ Some a → TakesRight a
  found_rule p [] a all e = absurd (true≢false (ap (λ (o : Option Rule). is_some o) (sym e)))
  found_rule p (x ∷ c) a all e = grind (arith, common_steps, found_rule p c a all.1)

  joined : (xs ys : List Row) → AllFit xs → AllFit ys → AllFit (xs ++ ys)
  joined [] ys h k = k
  joined (x ∷ xs) ys h k = (h.0, joined xs ys h.1 k)

  at_fit : (id : Text) (change : Row → List Row) (missing rows : List Row) → ((r : Row) → Fits r → AllFit (change r))
      → AllFit missing → AllFit rows
      → AllFit (at_row id change missing rows)
  at_fit id change missing [] each new all = new
  at_fit id change missing (r ∷ rows) each new all =
      go (bytes_eq r.id id) (at_fit id change missing rows each new all.1)
    where
      go : (b : Bool) → AllFit (at_row id change missing rows)
          → AllFit (cond b (change r ++ rows) (r ∷ at_row id change missing rows))
      go true rest = joined (change r) rows (each r all.0) all.1
      go false rest = (all.0, rest)

  more_fit : (s : ValueSource) (values : List Text) (r : Row) → Fits r → AllFit (more_values s values r)
  more_fit s values r fit = ((fit.0, fit.1 ++ values, ap (λ (xs : List Text). xs ++ values) fit.2, fit.3), tt)

  without_fit : (id : Text) (rows : List Row) → AllFit rows → AllFit (without id rows)
  without_fit id rows all = at_fit id (λ r. []) [] rows (λ r fit. tt) tt all

  with_fit : (s : ValueSource) (id : Text) (how : Reading) (v : Text) (vs : List Text) (rows : List Row) → Q id how v
      → AllFit rows → AllFit (with_values id how s (v ∷ vs) rows)
  with_fit s id how v vs rows right all =
      at_fit id (more_values s (v ∷ vs))
      (record { id = id; values = v ∷ vs; count = None; source = Some s; reading = how } ∷ []) rows
      (more_fit s (v ∷ vs)) ((v, vs, refl, right), tt) all

  -- The rows still fit after one more option or flag is used.
  used_fit : (again : Bool) (a : Rule) (values : List Text) (rows : List Row) → TakesRight a
      → use_fault again a values rows ≡ [] → AllFit rows → AllFit (used a values rows)
  used_fit again a values rows right none all =
      by (action_of a) values right.0
      (both_none (range_kinds (unwrap_or_range a.range).start_inclusive (most_values a) (length values)) _ none)
    where
      by : (x : ArgAction) (vs : List Text) → Takes x a
          → (range_kinds (unwrap_or_range a.range).start_inclusive (most_values a) (length vs) ≡ [])
          × (action_fault x again a (values_or_missing a vs) rows ≡ [])
          → AllFit (used_as x a.id (reading_by a) (values_or_missing a vs) rows)
      by action.SetTrue vs takes none =
          let missing : values_or_missing a vs ≡ takes.1 ∷ [] =
          ap (values_or_missing a) (values_of_flag _ _ vs takes.0 none.0) ∙ takes.2 in
          subst (λ (ws : List Text). AllFit (used_as action.SetTrue a.id (reading_by a) ws rows)) (sym missing)
          (with_fit CommandLine a.id (reading_by a) takes.1 [] (without a.id rows) takes.3 (without_fit a.id rows all))
      by x vs takes none = grind (arith, common_steps, no_value, both_none, with_fit, without_fit)

  module _ (c : List Rule) (again : Bool) (all : AllTake c) where
    settled_fit : (h : Held) → settle_fault c again h ≡ [] → AllFit h.rows → AllFit (settled c h).rows
    settled_fit h none fit = go h.pending none
      where
        at : (id : Text) (values : List Text) (o : Option Rule) → arg_by_id c id ≡ o
            → option_map_or (λ a. use_fault again a values h.rows) o [] ≡ []
            → AllFit (used_by_id o values h.rows)
        at id values None is e = fit
        at id values (Some a) is e =
            used_fit again a values h.rows (found_rule (λ (x : Rule). bytes_eq x.id id) c a all is) e fit

        go : (p : Option (Text × List Text))
            → option_map_or (λ p. option_map_or (λ a. use_fault again a p.1 h.rows) (arg_by_id c p.0) []) p [] ≡ []
            → AllFit (settled_rows c p h.rows)
        go None e = fit
        go (Some p) e = at p.0 p.1 (arg_by_id c p.0) refl e

    reacted_fit : (a : Rule) (values : List Text) (h : Held) → TakesRight a → react_fault c again a values h ≡ []
        → AllFit h.rows → AllFit (reacted c a values h).rows
    reacted_fit a values h right none fit =
        let faults = both_none (settle_fault c again h) _ none in
        used_fit again a values (settled c h).rows right faults.1 (settled_fit h faults.0 fit)

    option_fit : (a : Rule) (v : Option Text) (h : Held) → TakesRight a → option_fault c again a v h ≡ []
        → AllFit h.rows → AllFit (option_met c a v h).0.rows
    option_fit a (Some v) h right none fit = reacted_fit a (v ∷ []) h right none fit
    option_fit a None h right none fit = settled_fit h none fit

    flag_fit : (a : Rule) (v : Option Text) (h : Held) → TakesRight a → cond (is_some v) (TooManyValues ∷ [])
        (react_fault c again a [] h) ≡ []
        → AllFit h.rows → AllFit (flag_met c a v h).0.rows
    flag_fit a (Some v) h right none fit = fit
    flag_fit a None h right none fit = reacted_fit a [] h right none fit

    long_fit : (o : Option Rule) (v : Option Text) (h : Held) → ((a : Rule) → o ≡ Some a → TakesRight a)
        → long_fault c again o v h ≡ [] → AllFit h.rows
        → AllFit (long_met c o v h).0.rows
    long_fit o v h right none fit = grind (arith, common_steps, option_fit, flag_fit)

    -- The rows still fit after a short option or flag.
    short_fit : (o : Option Rule) (rest : Text) (h : Held) (step : Held → Held × Outcome) (fault : Held → Kinds)
        → ((a : Rule) → o ≡ Some a → TakesRight a)
        → ((g : Held) → fault g ≡ [] → AllFit g.rows → AllFit (step g).0.rows) → short_fault c again o rest h fault
        ≡ [] → AllFit h.rows
        → AllFit (short_met c o rest h step).0.rows
    short_fit None rest h step fault right each none fit = fit
    short_fit (Some a) rest h step fault right each none fit = by (takes_values a) none
      where
        by : (b : Bool)
            → (if b then option_fault c again a (attached_value rest) h
            else or_else (react_fault c again a [] h) (fault (reacted c a [] h))) ≡ []
            → AllFit (if b then option_met c a (attached_value rest) h else step (reacted c a [] h)).0.rows
        by true e = option_fit a (attached_value rest) h (right a refl) e fit
        by false e =
            let both = both_none (react_fault c again a [] h) _ e in
            each (reacted c a [] h) both.1 (reacted_fit a [] h (right a refl) both.0 fit)

    bundle_fit : (k : ℕ) (flags : Text) (skip : ℕ) (so_far : Outcome) (h : Held) → flags_fault c again k flags skip h
        ≡ [] → AllFit h.rows
        → AllFit (bundle_met c k flags skip so_far h).0.rows
    unfolding bundle_met flags_fault
    bundle_fit zero flags skip so_far h none fit = fit
    bundle_fit (suc k) flags skip so_far h none fit = go (slice_get (chars flags) 0) skip none (bundle_fit k)
      where
        go : (o : Option ℕ) (n : ℕ) → bundle_step_fault c again o flags n h (flags_fault c again k) ≡ []
            → ((f : Text) (m : ℕ) (x : Outcome) (g : Held) → flags_fault c again k f m g ≡ [] → AllFit g.rows
            → AllFit (bundle_met c k f m x g).0.rows)
            → AllFit (bundle_step c o flags n so_far h (bundle_met c k)).0.rows
        go None n e rest = fit
        go (Some x) zero e rest =
            short_fit (arg_by_short c x) (drop (length (encode_utf8 x)) flags) h
            (bundle_met c k (drop (length (encode_utf8 x)) flags) 0 done)
            (flags_fault c again k (drop (length (encode_utf8 x)) flags) 0) (λ a is. found_rule _ c a all is)
            (λ g. rest (drop (length (encode_utf8 x)) flags) 0 done g) e fit
        go (Some x) (suc n) e rest = rest (drop (length (encode_utf8 x)) flags) n so_far h e fit

    plain_fit : (waiting : Waiting) (word : Text) (h : Held) → AllFit h.rows
        → AllFit (plain_word c waiting word h).0.rows
    plain_fit waiting word h fit = grind (arith, common_steps)

    flagged_fit : (waiting : Waiting) (word : Text) (h : Held) (o : Outcome) → AllFit h.rows
        → AllFit (after_flag c waiting word h o).0.rows
    flagged_fit waiting word h o fit = grind (arith, common_steps, plain_fit)

  module _ (s : Shape) (all : AllTake s.rules) where
    flag_word_fit : (waiting : Waiting) (word : Text) (h : Held) → flag_word_fault s.rules s.args_override_self
        (long_of word) word h ≡ [] → AllFit h.rows
        → AllFit (long_or_other s.rules waiting word (long_of word) h).0.rows
    flag_word_fit waiting word h none fit = go (long_of word) none
      where
        short : (o : Option Text) → option_map_or (λ flags. bundle_fault s.rules s.args_override_self flags h) o [] ≡ []
            → AllFit (short_or_plain s.rules waiting word o h).0.rows
        short None e = plain_fit s.rules s.args_override_self all waiting word h fit
        short (Some flags) e = flagged_fit s.rules s.args_override_self all waiting word _ _
            (bundle_fit s.rules s.args_override_self all (length flags) flags h.skip plain (record h { skip = 0 }) e
            fit)

        go : (o : Option (Text × Option Text)) → flag_word_fault s.rules s.args_override_self o word h ≡ []
            → AllFit (long_or_other s.rules waiting word o h).0.rows
        go None e = short (short_of word) e
        go (Some p) e = flagged_fit s.rules s.args_override_self all waiting word _ _
            (long_fit s.rules s.args_override_self all (arg_by_long s.rules p.0) p.1 h
            (λ a is. found_rule _ s.rules a all is) e fit)

    other_fit : (o : Option Text) (waiting : Waiting) (position : ℕ) (word : Text) (h : Held) → other_fault s o word h
        ≡ [] → AllFit h.rows
        → AllFit (subcommand_or_other s.rules o waiting position word h).0.rows
    other_fit (Some name) waiting position word h none fit = fit
    other_fit None waiting position word h none fit = go (bytes_eq word (45 ∷ 45 ∷ [])) none
      where
        go : (b : Bool) → cond b [] (flag_word_fault s.rules s.args_override_self (long_of word) word h) ≡ []
            → AllFit (cond b (h, trailing position) (long_or_other s.rules waiting word (long_of word) h)).0.rows
        go true e = fit
        go false e = flag_word_fit waiting word h e fit

    word_fit : (names : Names) (is_trailing : Bool) (waiting : Waiting) (position : ℕ) (word : Text) (h : Held)
        → word_fault s names is_trailing waiting word h ≡ [] → AllFit h.rows
        → AllFit (word_met s.rules names is_trailing waiting position word h).0.rows
    word_fit names is_trailing waiting position word h none fit = grind (arith, common_steps, other_fit)

    step_fit : (word : Text) (w : Walk) (h : Held) (x : Step) → step_fault s w.position h x ≡ [] → AllFit h.rows
        → AllFit (after_step s.rules word w h x).held.rows
    step_fit word w h x none fit = grind (arith, common_steps, settled_fit)

    turn_fit : (names : Names) (w : Walk) (word : Text) → turn_fault s names w word ≡ [] → AllFit w.held.rows
        → AllFit (walked s.rules names w word).held.rows
    unfolding walked
    turn_fit names w word none fit = grind (arith, common_steps, both_none, step_fit, word_fit)

    walk_fit : (names : Names) (arguments : List Text) (w : Walk) → walk_fault s names w arguments ≡ []
        → AllFit w.held.rows → AllFit (fold (walked s.rules names) w arguments).held.rows
    unfolding walk_fault
    walk_fit names [] w none fit = fit
    walk_fit names (word ∷ rest) w none fit =
        grind (arith, common_steps, both_none, turn_fit, walk_fit names rest (walked s.rules names w word))

  default_fit : (rows : List Row) (a : Rule) → TakesRight a → AllFit rows → AllFit (with_default rows a)
  default_fit rows a right fit = by (action_of a) (has_row a.id rows) right.1
    where
      by : (x : ArgAction) (b : Bool) → Defaults x a
          → AllFit (cond b rows (default_rows a.id (reading_by a) a.defaults rows))
      by x true defaults = fit
      by action.SetTrue false defaults = rw defaults.2
          (with_fit DefaultValue a.id (reading_by a) defaults.0 defaults.1 rows defaults.3 fit)
      by x false defaults = grind (arith, common_steps)

  defaults_fit : (c : List Rule) (rows : List Row) → AllTake c → AllFit rows → AllFit (fold with_default rows c)
  defaults_fit [] rows all fit = fit
  defaults_fit (a ∷ c) rows all fit = defaults_fit c (with_default rows a) all.1 (default_fit rows a all.0 fit)

  -- The rows of a command without faults fit its rules.
  pub finished_fit : (s : Shape) (names : Names) (arguments : List Text) → AllTake s.rules
      → walk_fault s names (walk_from nothing_held) arguments ≡ []
      → settle_fault s.rules s.args_override_self (walk s.rules names nothing_held arguments).held ≡ []
      → AllFit (rows_after s.rules names arguments)
  finished_fit s names arguments all walks settles = grind (arith, common_steps, settled_fit, walk_fit, defaults_fit)

  -- The rows of a command without faults and subcommands fit its rules, and its required options are given.
  pub level_fit : (s : Shape) (arguments : List Text) → AllTake s.rules → level_fault s [] nothing_held arguments
      false [] ≡ []
      → AllFit (rows_after s.rules [] arguments) × (check_fault s (rows_after s.rules [] arguments) false ≡ [])
  level_fit s arguments all none = grind (arith, common_steps, both_none, finished_fit)

  -- Some row has this identifier, and its value has the property.
  abbrev pub HasRowWith : Text → List Row → Type 0
  HasRowWith id rows = (v : Text) × (how : Reading) × (first_of id rows ≡ Some v)
      × (one_of id rows ≡ Some (read_as how v)) × Q id how v

  at_row_found : (id : Text) (r : Row) → Fits r → r.id ≡ id
      → (v : Text) × (how : Reading) × (slice_get r.values 0 ≡ Some v)
      × (option_map (read_as r.reading) (slice_get r.values 0) ≡ Some (read_as how v)) × Q id how v
  at_row_found id r fit same = grind (arith, common_steps)

  -- Either no row has this identifier, or the first row that has it fits.
  pub found_or_none : (id : Text) (rows : List Row) → AllFit rows
      → ((find (λ r. bytes_eq r.id id) rows ≡ None) ⊎ HasRowWith id rows)
  found_or_none id [] fit = inl refl
  found_or_none id (r ∷ rows) fit =
      grind (arith, common_steps, at_row_found, bytes_eq-Decides, found_or_none id rows fit.1)

  -- An option that is given has a row with a value.
  pub found_given : (id : Text) (rows : List Row) → AllFit rows → is_given id rows ≡ true → HasRowWith id rows
  found_given id rows fit given = grind (arith, common_steps, found_or_none, true≢false)

-- An option that the rules require is given, if the check finds no fault.
pub wanted_given : (a b x : Bool) → check_kinds a b x ≡ [] → x ≡ false
wanted_given a b x e = grind (arith, common_steps)
