-- Proves that the bytes of requests, in their order, determine the responses of an office.
use Rattle.std.proofs.Common.{◌≡◌, ◌∙◌, ◌∷◌, [], ℕ, Bool, List, inl, inr, refl, sym, subst, map, length, append-nil}
use Rattle.thes_base.specs.Headline.{IsConsistentState}
use Rattle.thes_base.specs.Refusals.{Setting, AreLimits}
use Rattle.thes_base.specs.State.{State}
use Rattle.thes_base.proofs.MachineLemmas.{legal_is_consistent}
use Rattle.thes_store.specs.Storage.{StorageView}
use Rattle.thes_office.specs.Office.{OfficeView}
use Rattle.thes_office.specs.TablesOfState.{TablesOfState, EncodeOneState}
use Rattle.thes_http.specs.Server.{AreAnswered, Exchange}
use Rattle.thes_http.specs.Laws.{SameResponse}
use Rattle.thes_http.specs.Serving.{Answers}
use Rattle.thes_service.specs.Laws.{ExchangesInState, HasOneListOfResponses, ReportsFailure}
use Rattle.thes_service.specs.OfficeRequests.{IsReachedByRun}
use Rattle.thes_service.specs.Service.{office_behaviour}
use Rattle.thes_service.proofs.ConnectionRunLemmas.{connections_lead}
use Rattle.thes_service.proofs.OfficeAnswerLemmas.{one_office_answer}

module _ {K : Type 0} (view : K → StorageView) (takes : Bool) where
  -- While the storage of the office is up, its tables encode a consistent state.
  abbrev Shows : OfficeView K → Type 0
  Shows office = (view office.keeper).is_up → (base : List ℕ) × (s : State)
      × TablesOfState (view office.keeper).rows base s × IsConsistentState base s

  exchanges_lead : (old new : OfficeView K) (exchanges : List Exchange) → Shows old
      → AreAnswered (office_behaviour view takes) old exchanges new → IsReachedByRun view old new
  exchanges_lead old new exchanges shows answered = connections_lead view takes (length exchanges) old new shows
      (record { exchanges = exchanges; counted = refl; answered = answered })

  -- If the storage is up after an exchange, it was up before.
  was_up : (old mid new : OfficeView K) (exchanges : List Exchange) (e : Exchange) → Shows old
      → AreAnswered (office_behaviour view takes) old exchanges mid
      → Answers (office_behaviour view takes) mid e.response new e.bytes → (view new.keeper).is_up
      → (view mid.keeper).is_up
  was_up old mid new exchanges e shows answered answers up =
      let reached = exchanges_lead old mid exchanges shows answered in
      let last = exchanges_lead mid new (e ∷ [])
      (λ is_up. let run = reached.goes_on is_up in let ran = run.2 in (
        ran.base,
        ran.state_after,
        ran.shows,
        ran.in_order,
      ))
      (mid, refl, answers) in
      last.was up

  shows_of : (setting : Setting) (s : State) (old : OfficeView K) → TablesOfState (view old.keeper).rows setting.base s
      → Shows old
  shows_of setting s old x up = (setting.base, s, x, legal_is_consistent setting.base s x.legal)

  -- The exchanges of an office are those before the last one, and then the last one.
  earlier : (setting : Setting) (s : State) (old new : OfficeView K) (e : Exchange) (exchanges : List Exchange)
      → (x : ExchangesInState view takes setting s old (e ∷ exchanges) new)
      → (mid : OfficeView K) × ExchangesInState view takes setting s old exchanges mid
      × (mid.limits ≡ setting.limits) × Answers (office_behaviour view takes) mid e.response new e.bytes
  earlier setting s old new e exchanges x =
      let answered = x.answers in let failures = x.no_failure in
      let shows = shows_of setting s old x.shows in
      let reached = exchanges_lead old answered.0 exchanges shows answered.1 in (
        answered.0,
        record {
          limits = x.limits;
          shows = x.shows;
          answers = answered.1;
          is_up = was_up old answered.0 new exchanges e shows answered.1 answered.2 x.is_up;
          no_failure = failures.1;
        },
        reached.limits ∙ x.limits,
        answered.2,
      )

  -- Without exchanges the tables are the same.
  shows_without : (setting : Setting) (s : State) (old new : OfficeView K)
      → ExchangesInState view takes setting s old [] new
      → TablesOfState (view new.keeper).rows setting.base s
  shows_without setting s old new x =
      subst (λ (o : OfficeView K). TablesOfState (view o.keeper).rows setting.base s) (sym x.answers) x.shows

module _ {K L : Type 0} (view : K → StorageView) (other : L → StorageView) where
  -- If the exchanges before the last lead to the same state, the last responses to the same bytes are the same.
  last_response : (takes : Bool) (setting : Setting) → AreLimits setting.limits
      → (mid new : OfficeView K) (mid' new' : OfficeView L)
      (e f : Exchange) → e.bytes ≡ f.bytes → mid.limits ≡ setting.limits → mid'.limits ≡ setting.limits
      → EncodeOneState setting.base (view mid.keeper).rows (other mid'.keeper).rows
      → Answers (office_behaviour view takes) mid e.response new e.bytes
      → Answers (office_behaviour other takes) mid' f.response new' f.bytes
      → (view new.keeper).is_up → (other new'.keeper).is_up
      → (¬ ReportsFailure e.response) → (¬ ReportsFailure f.response)
      → SameResponse e.response f.response × EncodeOneState setting.base (view new.keeper).rows (other new'.keeper).rows
  last_response takes setting few mid new mid' new' e f same limits limits' one a b up up' fine fine' =
      let bytes = sym same ∙ sym (append-nil e.bytes) in
      elim (one_office_answer view other takes setting few one.state mid new mid' new' e.response f.response e.bytes []
      (record { limits = limits; shows = one.one; answers = a; is_up = up })
      (record {
        limits = limits';
        shows = one.other;
        answers = subst (Answers (office_behaviour other takes) mid' f.response new') bytes b;
        is_up = up';
      })) [
        | inl r ↦ r
        | inr (inl failed) ↦ absurd (fine failed)
        | inr (inr failed) ↦ absurd (fine' failed)
      ]

  pub one_list_of_responses : HasOneListOfResponses view other
  one_list_of_responses takes setting few s old new old' new' [] [] same x y = (
    tt,
    record {
      state = s;
      one = shows_without view takes setting s old new x;
      other = shows_without other takes setting s old' new' y;
    },
  )
  one_list_of_responses takes setting few s old new old' new' [] (f ∷ others) same x y = absurd (cc)
  one_list_of_responses takes setting few s old new old' new' (e ∷ exchanges) [] same x y = absurd (cc)
  one_list_of_responses takes setting few s old new old' new' (e ∷ exchanges) (f ∷ others) same x y =
      let both : e.bytes ∷ map (λ (g : Exchange). g.bytes) exchanges
      ≡ f.bytes ∷ map (λ (g : Exchange). g.bytes) others =
      same in
      let bytes : e.bytes ≡ f.bytes = cc in
      let before : map (λ (g : Exchange). g.bytes) exchanges ≡ map (λ (g : Exchange). g.bytes) others = cc in
      let mine = earlier view takes setting s old new e exchanges x in
      let theirs = earlier other takes setting s old' new' f others y in
      let rest = one_list_of_responses takes setting few s old mine.0 old' theirs.0 exchanges others before mine.1
      theirs.1 in
      let fine = x.no_failure in let fine' = y.no_failure in
      let last = last_response takes setting few mine.0 new theirs.0 new' e f bytes mine.2 theirs.2 rest.1 mine.3
      theirs.3
      x.is_up y.is_up fine.0 fine'.0 in
      ((bytes, last.0, rest.0), last.1)
