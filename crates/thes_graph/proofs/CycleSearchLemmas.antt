-- Each step of the search for a cycle keeps the invariant of the search and decreases its measure.
use Rattle.std.proofs.Common.{◌≡◌, ◌⊎◌, inl, inr, ◌+◌, ◌-◌, ◌^◌, ◌<◌, ◌≤◌, ◌↔◌, ℕ, List, [], ◌∷◌, ◌++◌, Contains}
use Rattle.std.proofs.Common.{length}
use Rattle.std.proofs.Common.{take, get_or, slice_get, Option, Some, refl, sym, ap, subst, ◌∙◌, append-nil, arith}
use Rattle.std.proofs.Math.Seq.{take-append-add}
use Rattle.std.proofs.lemmas.Bool.{cases_lt}
use Rattle.std.proofs.lemmas.List.{take_all, length-append, take-append-le, get_or_append_left, get_or_default}
use Rattle.std.proofs.lemmas.Option.{slice_get-get_or, slice_get_within, get_or_from_slice_get}
use Rattle.std.proofs.lemmas.List.Elements.{Contains-append_left, Contains-push, Contains-push_cases, Contains-get_or}
use Rattle.thes_base.specs.declared.data.Link.{Link}
use Rattle.thes_base.specs.Links.{Path, Chain, IsNarrower}
use Rattle.thes_base.proofs.ListMemberLemmas.{Contains-none, Contains-head, Contains-later, Contains-cons_cases}
use Rattle.thes_graph.specs.declared.find_cycle.PathNode.{PathNode}
use Rattle.thes_links.specs.Steps.{GrowsBy}
use Rattle.thes_links.specs.Rules.{NoCycleAt}
use Rattle.thes_graph.specs.CycleSearch.{HasCycle, IsUpwardOrder, IsUpwardPath, IsCycleSearch, stack_measure}
use Rattle.thes_graph.specs.CycleSearch.{search_measure}
use Rattle.thes_links.proofs.ReachLemmas.{no_others}
use Rattle.thes_links.proofs.PivotLemmas.{Chain-join, Chain-one}
use Rattle.thes_links.proofs.WeightLemmas.{take_next, Contains-take}

module _ (S : ℕ → ℕ → Type 0) where
  IsUpwardPath-push : (stack : List PathNode) (t : PathNode) → IsUpwardPath S stack
      → ((u : PathNode) → Contains stack u → Chain S u.node t.node) → IsUpwardPath S (stack ++ t ∷ [])
  IsUpwardPath-push [] t leads all = ((λ u has. absurd (Contains-none u has)), tt)
  IsUpwardPath-push (w ∷ stack) t leads all = (
    (λ u has. elim (Contains-push_cases stack t u has) [
      | inl old ↦ leads.0 u old
      | inr same ↦ subst (λ (v : PathNode). Chain S w.node v.node) same (all w (Contains-head w stack))
    ]),
    IsUpwardPath-push stack t leads.1 (λ u has. all u (Contains-later w stack u has)),
  )

  IsUpwardPath-front : (stack : List PathNode) (t : PathNode) → IsUpwardPath S (stack ++ t ∷ []) → IsUpwardPath S stack
  IsUpwardPath-front [] t leads = tt
  IsUpwardPath-front (w ∷ stack) t leads = (
    (λ u has. leads.0 u (Contains-append_left stack (t ∷ []) u has)),
    IsUpwardPath-front stack t leads.1,
  )

  IsUpwardPath-last : (stack : List PathNode) (t : PathNode) → IsUpwardPath S (stack ++ t ∷ []) → (u : PathNode)
      → Contains stack u → Chain S u.node t.node
  IsUpwardPath-last [] t leads u has = absurd (Contains-none u has)
  IsUpwardPath-last (w ∷ stack) t leads u has = elim (Contains-cons_cases w stack u has) [
    | inl same ↦ subst (λ (v : PathNode). Chain S v.node t.node) same (leads.0 t (Contains-push stack t))
    | inr later ↦ IsUpwardPath-last stack t leads.1 u later
  ]

pub GrowsBy-keeps : (old new : List ℕ) (New : ℕ → Type 0) → GrowsBy old new New → (n : ℕ) → Contains old n
    → Contains new n
GrowsBy-keeps old new New grows n has = subst (λ (ns : List ℕ). Contains ns n) (sym grows.extends.1)
    (Contains-append_left old grows.extends.0 n has)

pub GrowsBy-longer : (old new : List ℕ) (n : ℕ) → GrowsBy old new (λ m. n ≡ m) → (Contains old n → ⊥) → length old
    < length new
GrowsBy-longer old new n grows off = go grows.extends.0 grows.extends.1
  where
    go : (more : List ℕ) → new ≡ old ++ more → length old < length new
    go [] is = absurd (off (subst (λ (ns : List ℕ). Contains ns n) (is ∙ append-nil old) (grows.has_new n refl)))
    go (m ∷ more) is = let total : length new ≡ length old + length (m ∷ more) = ap length is
        ∙ length-append old (m ∷ more) in omega arith

take_past : (k : ℕ) (xs ys : List ℕ) → length xs ≤ k → take k (xs ++ ys) ≡ xs ++ take (k - length xs) ys
take_past k xs ys past = let e : k ≡ length xs + (k - length xs) = omega arith in
    ap (λ (n : ℕ). take n (xs ++ ys)) e ∙ take-append-add xs ys (k - length xs)

module _ (Held : Link → Type 0) where
  pub IsUpwardOrder-none : IsUpwardOrder Held []
  IsUpwardOrder-none = record {
    above_first = λ k within. absurd (omega arith);
    free = λ n has. absurd (Contains-none n has);
  }

  pub IsCycleSearch-start : (done : List ℕ) (t : PathNode) → IsUpwardOrder Held done
      → ((h : ℕ) → Contains t.above.items h ↔ IsNarrower Held t.node h) → IsCycleSearch Held (t.node ∷ []) done
      (t ∷ [])
  IsCycleSearch-start done t order above = record {
    leads = ((λ u has. absurd (Contains-none u has)), tt);
    met_nodes = λ n has. inr (t, Contains-head t [], no_others t.node n has);
    open_nodes = λ u on h up. inr (subst (λ (v : PathNode). Contains v.above.items h) (no_others t u on)
        ((above h).1 (subst (λ (v : PathNode). IsNarrower Held v.node h) (sym (no_others t u on)) up)));
    sound = λ u on h has. subst (λ (v : PathNode). IsNarrower Held v.node h) (no_others t u on)
        ((above h).0 (subst (λ (v : PathNode). Contains v.above.items h) (sym (no_others t u on)) has));
    order = order;
  }

  pub IsCycleSearch-end : (met done : List ℕ) → IsCycleSearch Held met done [] → (n : ℕ) → Contains met n
      → Contains done n
  IsCycleSearch-end met done is n has = elim (is.met_nodes n has) [
    | inl old ↦ old
    | inr on ↦ absurd (Contains-none on.0 on.1)
  ]

  module _ (met done : List ℕ) (stack : List PathNode) (s : PathNode)
      (is : IsCycleSearch Held met done (stack ++ s ∷ [])) where
    abbrev S : ℕ → ℕ → Type 0
    S = IsNarrower Held

    in_front : (t : PathNode) → Contains stack t → Contains (stack ++ s ∷ []) t
    in_front t on = Contains-append_left stack (s ∷ []) t on

    -- The top of the stack may be added to the nodes that are done, if all nodes above it are done.
    pub IsCycleSearch-done : (later : List ℕ) → s.above.items ≡ [] → GrowsBy done later (λ n. s.node ≡ n)
        → IsCycleSearch Held met later stack
    IsCycleSearch-done later empty grows = record {
      leads = IsUpwardPath-front S stack s is.leads;
      met_nodes = λ n has. elim (is.met_nodes n has) [
        | inl old ↦ inl (keeps n old)
        | inr on ↦ elim (Contains-push_cases stack s on.0 on.1) [
          | inl front ↦ inr (on.0, front, on.2)
          | inr last ↦ inl (grows.has_new n (ap (λ (v : PathNode). v.node) last ∙ on.2))
        ]
      ];
      open_nodes = λ t on h up. elim (is.open_nodes t (in_front t on) h up) [
        | inl old ↦ inl (keeps h old)
        | inr more ↦ inr more
      ];
      sound = λ t on h has. is.sound t (in_front t on) h has;
      order = record {
        above_first = λ k within h up. elim (cases_lt k (length done)) [
          | inl inside ↦ before k inside h up
          | inr past ↦ after k within past h up
        ];
        free = λ n has. elim (grows.no_others n has) [
          | inl old ↦ is.order.free n old
          | inr now ↦ subst (λ (m : ℕ). NoCycleAt Held m) now off_cycles
        ];
      };
    }
      where
        all_done : (h : ℕ) → S s.node h → Contains done h
        all_done h up = elim (is.open_nodes s (Contains-push stack s) h up) [
          | inl old ↦ old
          | inr more ↦ absurd (Contains-none h (subst (λ (hs : List ℕ). Contains hs h) empty more))
        ]

        before : (k : ℕ) → k < length done → (h : ℕ) → S (get_or later k 0) h → Contains (take k later) h
        before k inside h up =
            rw (grows.extends.1, take-append-le k done grows.extends.0 (omega arith))
            (is.order.above_first k inside h (subst (λ (n : ℕ). S n h)
            (ap (λ (ns : List ℕ). get_or ns k 0) grows.extends.1
            ∙ get_or_append_left done grows.extends.0 0 k inside) up))

        -- If a node is done, each node broader than it is done.
        above_done : (n h : ℕ) → Contains done n → S n h → Contains done h
        above_done n h (i, inside, at) up =
            Contains-take i done h (is.order.above_first i inside h (subst (λ (m : ℕ). S m h) (sym at
            ∙ get_or_default done i n 0 inside) up))

        after : (k : ℕ) → k < length later → length done ≤ k → (h : ℕ) → S (get_or later k 0) h
            → Contains (take k later) h
        after k within past h up =
            let h_done : Contains done h =
            elim (grows.no_others (get_or later k 0) (Contains-get_or later k 0 within)) [
              | inl old ↦ above_done (get_or later k 0) h old up
              | inr now ↦ all_done h (subst (λ (n : ℕ). S n h) (sym now) up)
            ] in
            rw (grows.extends.1, take_past k done grows.extends.0 past)
            (Contains-append_left done (take (k - length done) grows.extends.0) h h_done)

        keeps : (n : ℕ) → Contains done n → Contains later n
        keeps = GrowsBy-keeps done later (λ n. s.node ≡ n) grows

        round : (ms : List ℕ) → Path S s.node ms s.node → ⊥
        round [] one = is.order.free s.node (all_done s.node one) ([], one)
        round (m ∷ ms) path =
            is.order.free m (all_done m path.0) (Chain-join S m s.node m (ms, path.1) (Chain-one S s.node m path.0))

        off_cycles : NoCycleAt Held s.node
        off_cycles chain = round chain.0 chain.1

    -- The invariant holds after nodes that are done are removed from those to be searched from at the top of the stack.
    pub IsCycleSearch-fewer : (t : PathNode) → t.node ≡ s.node → ((h : ℕ) → Contains s.above.items h → Contains done h
        ⊎ Contains t.above.items h) → ((h : ℕ) → Contains t.above.items h → Contains s.above.items h)
        → IsCycleSearch Held met done (stack ++ t ∷ [])
    IsCycleSearch-fewer t same split fewer = record {
      leads = IsUpwardPath-push S stack t (IsUpwardPath-front S stack s is.leads)
          (λ u on. subst (λ (n : ℕ). Chain S u.node n) (sym same) (IsUpwardPath-last S stack s is.leads u on));
      met_nodes = λ n has. elim (is.met_nodes n has) [
        | inl old ↦ inl old
        | inr on ↦ elim (Contains-push_cases stack s on.0 on.1) [
          | inl front ↦ inr (on.0, Contains-append_left stack (t ∷ []) on.0 front, on.2)
          | inr last ↦ inr (t, Contains-push stack t, same ∙ ap (λ (v : PathNode). v.node) last ∙ on.2)
        ]
      ];
      open_nodes = λ u on h up. elim (Contains-push_cases stack t u on) [
        | inl front ↦ is.open_nodes u (in_front u front) h up
        | inr last ↦ subst (λ (v : PathNode). Contains done h ⊎ Contains v.above.items h) last
            (here h (subst (λ (n : ℕ). S n h) (sym (at u last)) up))
      ];
      sound = λ u on h has. elim (Contains-push_cases stack t u on) [
        | inl front ↦ is.sound u (in_front u front) h has
        | inr last ↦ subst (λ (n : ℕ). S n h) (at u last)
            (is.sound s (Contains-push stack s) h
            (fewer h (subst (λ (v : PathNode). Contains v.above.items h) (sym last) has)))
      ];
      order = is.order;
    }
      where
        at : (u : PathNode) → t ≡ u → s.node ≡ u.node
        at u last = sym same ∙ ap (λ (v : PathNode). v.node) last

        here : (h : ℕ) → S s.node h → Contains done h ⊎ Contains t.above.items h
        here h up = elim (is.open_nodes s (Contains-push stack s) h up) [ inl old ↦ inl old | inr more ↦ split h more ]

    -- A node above the top of the stack that was met and isn't done is on the stack, and closes a cycle.
    pub HasCycle-met : (h : ℕ) → Contains s.above.items h → Contains met h → (Contains done h → ⊥) → HasCycle Held
    HasCycle-met h above has off = elim (is.met_nodes h has) [
      | inl old ↦ absurd (off old)
      | inr on ↦ elim (Contains-push_cases stack s on.0 on.1) [
        | inl front ↦ (
          h,
          subst (λ (n : ℕ). Chain S n h) on.2
              (Chain-join S on.0.node s.node h (IsUpwardPath-last S stack s is.leads on.0 front)
              (Chain-one S s.node h up)),
        )
        | inr last ↦ (
          h,
          subst (λ (n : ℕ). Chain S n h) (ap (λ (v : PathNode). v.node) last ∙ on.2)
              (Chain-one S s.node h up),
        )
      ]
    ]
      where
        up : S s.node h
        up = is.sound s (Contains-push stack s) h above

    -- The invariant holds after a node above the top of the stack is pushed.
    pub IsCycleSearch-more : (later : List ℕ) (t : PathNode) → Contains s.above.items t.node
        → GrowsBy met later (λ n. t.node ≡ n) → ((h : ℕ) → Contains t.above.items h ↔ S t.node h)
        → IsCycleSearch Held later done ((stack ++ s ∷ []) ++ t ∷ [])
    IsCycleSearch-more later t above grows all = record {
      leads = IsUpwardPath-push S (stack ++ s ∷ []) t is.leads to_t;
      met_nodes = λ n has. elim (grows.no_others n has) [
        | inl old ↦ elim (is.met_nodes n old) [
          | inl old ↦ inl old
          | inr on ↦ inr (on.0, Contains-append_left (stack ++ s ∷ []) (t ∷ []) on.0 on.1, on.2)
        ]
        | inr now ↦ inr (t, Contains-push (stack ++ s ∷ []) t, now)
      ];
      open_nodes = λ u on h up. elim (Contains-push_cases (stack ++ s ∷ []) t u on) [
        | inl old ↦ is.open_nodes u old h up
        | inr last ↦ inr (subst (λ (v : PathNode). Contains v.above.items h) last
            ((all h).1 (subst (λ (v : PathNode). S v.node h) (sym last) up)))
      ];
      sound = λ u on h has. elim (Contains-push_cases (stack ++ s ∷ []) t u on) [
        | inl old ↦ is.sound u old h has
        | inr last ↦ subst (λ (v : PathNode). S v.node h) last
            ((all h).0 (subst (λ (v : PathNode). Contains v.above.items h) (sym last) has))
      ];
      order = is.order;
    }
      where
        up : S s.node t.node
        up = is.sound s (Contains-push stack s) t.node above

        to_t : (u : PathNode) → Contains (stack ++ s ∷ []) u → Chain S u.node t.node
        to_t u on = elim (Contains-push_cases stack s u on) [
          | inl front ↦ Chain-join S u.node s.node t.node (IsUpwardPath-last S stack s is.leads u front)
              (Chain-one S s.node t.node up)
          | inr last ↦ subst (λ (v : PathNode). Chain S v.node t.node) last (Chain-one S s.node t.node up)
        ]

stack_measure-push : (stack : List PathNode) (t : PathNode) → stack_measure (stack ++ t ∷ []) ≡ stack_measure stack
    + (1 + length t.above.items)
stack_measure-push [] t = omega arith
stack_measure-push (w ∷ stack) t = let rest : stack_measure (stack ++ t ∷ []) ≡ stack_measure stack
    + (1 + length t.above.items) = stack_measure-push stack t in omega arith

pub search_measure-done : (met : List ℕ) (stack : List PathNode) (s : PathNode) → search_measure met stack
    < search_measure met (stack ++ s ∷ [])
search_measure-done met stack s = let more : stack_measure (stack ++ s ∷ []) ≡ stack_measure stack
    + (1 + length s.above.items) = stack_measure-push stack s in omega arith

pub search_measure-fewer : (met : List ℕ) (stack : List PathNode) (s t : PathNode) → length t.above.items
    < length s.above.items → search_measure met (stack ++ t ∷ []) < search_measure met (stack ++ s ∷ [])
search_measure-fewer met stack s t less =
    let with_s : stack_measure (stack ++ s ∷ []) ≡ stack_measure stack + (1 + length s.above.items) =
    stack_measure-push stack s in
    let with_t : stack_measure (stack ++ t ∷ []) ≡ stack_measure stack + (1 + length t.above.items) =
    stack_measure-push stack t in
    omega arith

pub search_measure-more : (met later : List ℕ) (stack : List PathNode) (s t : PathNode) → length met < length later
    → length later < 2 ^ 63 → length t.above.items < 2 ^ 63
    → search_measure later ((stack ++ s ∷ []) ++ t ∷ []) < search_measure met (stack ++ s ∷ [])
search_measure-more met later stack s t more small few =
    let with_t : stack_measure ((stack ++ s ∷ []) ++ t ∷ []) ≡ stack_measure (stack ++ s ∷ [])
    + (1 + length t.above.items) = stack_measure-push (stack ++ s ∷ []) t in
    omega arith

pub none_above : (above : List ℕ) (o : Option ℕ) → o ≡ slice_get above (length above - 1) → ((h : ℕ) → o ≡ Some h → ⊥)
    → above ≡ []
none_above [] o is none = refl
none_above (x ∷ above) o is none =
    absurd (none (get_or (x ∷ above) (length (x ∷ above) - 1) x)
    (is ∙ slice_get-get_or (x ∷ above) (length (x ∷ above) - 1) x (omega arith)))

pub last_above : (above : List ℕ) (h : ℕ) → Some h ≡ slice_get above (length above - 1) → Contains above h
last_above above h is = (
  length above - 1,
  slice_get_within above (length above - 1) h (sym is),
  get_or_from_slice_get above (length above - 1) h h (sym is),
)

-- A pop removes the last broader node from the list of those still to be searched from.
pub all_but_last : (above rest : List ℕ) (h : ℕ) → Some h ≡ slice_get above (length above - 1) → rest
    ≡ take (length above - 1) above → above ≡ rest ++ h ∷ []
all_but_last above rest h is open_nodes =
    let some : length above - 1 < length above = slice_get_within above (length above - 1) h (sym is) in
    let whole : length above - 1 + 1 ≡ length above = omega arith in
    sym (take_all (length above) above (omega arith)) ∙ ap (λ n. take n above) (sym whole)
    ∙ take_next above (length above - 1) h is ∙ ap (λ hs. hs ++ h ∷ []) (sym open_nodes)

module _ (above rest : List ℕ) (high : ℕ) (is : above ≡ rest ++ high ∷ []) where
  pub done_or_left : (done : List ℕ) → Contains done high → (h : ℕ) → Contains above h → Contains done h
      ⊎ Contains rest h
  done_or_left done has h at = elim (Contains-push_cases rest high h (subst (λ (hs : List ℕ). Contains hs h) is at)) [
    | inl open_nodes ↦ inr open_nodes
    | inr same ↦ inl (subst (λ (n : ℕ). Contains done n) same has)
  ]

  pub left_above : (h : ℕ) → Contains rest h → Contains above h
  left_above h has = subst (λ (hs : List ℕ). Contains hs h) (sym is) (Contains-append_left rest (high ∷ []) h has)

  pub fewer_left : length rest < length above
  fewer_left = let total : length above ≡ length rest + 1 = ap length is ∙ length-append rest (high ∷ []) in omega arith
