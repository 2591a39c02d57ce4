-- The steps of runners, one behind the other.
use Rattle.std.proofs.Common.{◌≡◌, ◌∙◌, ◌<◌, ◌≤◌, ◌+◌, ◌-◌, ℕ, zero, suc, All, List, [], ◌∷◌, ◌++◌, length, map, set, take, get_or, refl, sym, ap, subst, ⊎_elim, arith}
use Rattle.std.specs.List.{Contains}
use Rattle.std.specs.List.Sorted.{IsStrictlyIncreasing}
use Rattle.std.proofs.lemmas.Bool.{cases_eq, cases_lt}
use Rattle.std.proofs.lemmas.List.{take_more, append-nil, append_assoc, get_or-map, get_or-set_same, get_or-set_other, length-map, length-set}
use Rattle.std.proofs.lemmas.List.Elements.{All-nil, All-push, All-map}
use Rattle.std.proofs.lemmas.List.Concat.{flat_map-append}
use Rattle.std.proofs.Math.Seq.{map-set_same}
use Rattle.ob_desk.specs.Desk.{DeskState, Call, Reply, new_desk, MayOpen}
use Rattle.ob_session.specs.Steps.{Leads, IsOwn}
use Rattle.ob_session.specs.Clients.{said_by}
use Rattle.ob_session.specs.Agreeing.{Agrees}
use Rattle.ob_session.proofs.Runs.{calls_agree}
use Rattle.ob_session.proofs.Saying.{leads_join, said_append, other_said}
use Rattle.ob_conduct.specs.Acts.{Act, Says, history, desk_calls}
use Rattle.ob_conduct.specs.Rounds.{plan_rule}
use Rattle.ob_conduct.specs.Scenes.{RunnerKind, seat_of}
use Rattle.ob_conduct.specs.Moves.{IsSaid, Stepped, Heard}
use Rattle.ob_conduct.proofs.Turning.{turns_push, keeps_push}

pub history_more : (acts : List Act) (act : Act) → history (acts ++ act ∷ []) ≡ history acts ++ desk_calls act
history_more acts act = flat_map-append desk_calls acts (act ∷ []) ∙ ap (λ (x : List (Call × Reply)). history acts ++ x) (append-nil (desk_calls act))

-- rising numbers are apart
rises_far : (xs : List ℕ) (i n : ℕ) → IsStrictlyIncreasing xs → i + suc n < length xs → get_or xs i 0 < get_or xs (i + suc n) 0
rises_far xs i zero rising within = rising i within
rises_far xs i (suc n) rising within =
    let before : get_or xs i 0 < get_or xs (i + suc n) 0 = rises_far xs i n rising (omega (arith, within)) in
    let last : get_or xs (i + suc n) 0 < get_or xs (i + suc n + 1) 0 = rising (i + suc n) (omega (arith, within)) in
    let same : i + suc n + 1 ≡ i + suc (suc n) = omega arith in
    subst (λ k. get_or xs i 0 < get_or xs k 0) same (omega (arith, before, last))

rises_to : (xs : List ℕ) (i j : ℕ) → IsStrictlyIncreasing xs → i < j → j < length xs → get_or xs i 0 < get_or xs j 0
rises_to xs i j rising lt within =
    let n : ℕ = j - suc i in
    let same : i + suc n ≡ j = omega (arith, lt) in
    subst (λ k. get_or xs i 0 < get_or xs k 0) same (rises_far xs i n rising (omega (arith, same, within)))

apart : (xs : List ℕ) (i j : ℕ) → IsStrictlyIncreasing xs → (i ≡ j → ⊥) → i < length xs → j < length xs → get_or xs i 0 ≡ get_or xs j 0 → ⊥
apart xs i j rising other within also is = ⊎_elim
    (λ lt. let far = rises_to xs i j rising lt also in absurd (omega (arith, far, is)))
    (λ ge. let far = rises_to xs j i rising (let o = other in omega (arith, ge, o)) within in absurd (omega (arith, far, is)))
    (cases_lt i j)

module _ {U Plan : Type 0} (kind : RunnerKind U Plan) where
  abbrev client : U → ℕ
  client = kind.client

  abbrev bound : U → ℕ
  bound = kind.bound

  abbrev plan : U → Plan
  plan = kind.plan

  abbrev fits : U → List (Call × Reply) → Type 0
  fits = kind.fits

  at_map : (f : U → ℕ) (us : List U) (i : ℕ) (d : U) → i < length us → get_or (map f us) i 0 ≡ f (get_or us i d)
  at_map f us i d lt = get_or-map f us i d 0 lt

  pub bound_at : (n : ℕ) (was are : List U) (i : ℕ) (u : U) → All (λ v. bound v ≤ n) was → map bound are ≡ map bound was → i < length are → u ≡ get_or are i u → bound u ≤ n
  bound_at n was are i u below same lt is =
      let all : All (λ b. b ≤ n) (map bound are) = subst (λ bs. All (λ b. b ≤ n) bs) (sym same) (All-map (λ b. b ≤ n) bound was below) in
      let here : get_or (map bound are) i 0 ≡ bound u = at_map bound are i u lt ∙ ap bound (sym is) in
      subst (λ b. b ≤ n) here (all i 0 (subst (λ l. i < l) (sym (length-map are bound)) lt))

  pub stepped_none : (d : DeskState) (us : List U) → Stepped kind [] d us d us
  stepped_none d us = record { acts = []; says = All-nil _; leads = refl; clients = refl; bounds = refl; plans = refl; fitting = λ calls all. subst (λ (h : List (Call × Reply)). All (λ u. fits u (said_by (client u) h)) us) (sym (append-nil calls)) all; turns = tt; keeps = λ calls all. tt }

  -- runners of the same clients with the same plans
  pub same_seats : (us vs : List U) → map client us ≡ map client vs → map plan us ≡ map plan vs → map (seat_of kind) us ≡ map (seat_of kind) vs
  same_seats [] [] clients plans = refl
  same_seats [] (v ∷ vs) clients plans = absurd (cc clients)
  same_seats (u ∷ us) [] clients plans = absurd (cc clients)
  same_seats (u ∷ us) (v ∷ vs) clients plans =
      let c : client u ≡ client v = cc clients in
      let cs : map client us ≡ map client vs = cc clients in
      let q : plan u ≡ plan v = cc plans in
      let qs : map plan us ≡ map plan vs = cc plans in
      let one : ◌≡◌ {A = ℕ × Plan} (client u, plan u) (client v, plan v) = ap (λ n. let x : ℕ × Plan = (n, plan u) in x) c ∙ ap (λ p. let x : ℕ × Plan = (client v, p) in x) q in
      ap (λ x. x ∷ map (seat_of kind) us) one ∙ ap (λ xs. (client v, plan v) ∷ xs) (same_seats us vs cs qs)

  seated : (was are : List U) (i : ℕ) (u : U) → map client are ≡ map client was → map plan are ≡ map plan was → i < length are → u ≡ get_or are i u → Contains (map (seat_of kind) was) (client u, plan u)
  seated was are i u clients plans lt is = subst (λ seats. Contains seats (client u, plan u)) (same_seats are was clients plans)
      (i, subst (λ l. i < l) (sym (length-map are (seat_of kind))) lt, get_or-map (seat_of kind) are i u (client u, plan u) lt ∙ ap (seat_of kind) (sym is))

  pub stepped_more : (numbers : List ℕ) (old mid new : DeskState) (was are : List U) (i : ℕ) (u v : U) (steps : List (Call × Reply)) → IsStrictlyIncreasing (map client was) → i < length are → u ≡ get_or are i u → Stepped kind numbers old was mid are
      → client v ≡ client u → bound v ≡ bound u → plan v ≡ plan u → All (IsOwn (client u)) steps → Leads mid steps new → ((said : List (Call × Reply)) → fits u said → fits v (said ++ said_by (client u) steps)) → ((said : List (Call × Reply)) → fits u said → kind.turn (plan u) (client u) said steps)
      → Stepped kind (numbers ++ client u ∷ []) old was new (set are i v)
  stepped_more numbers old mid new was are i u v steps rising lt is s same_client same_bound same_plan own leads goes_on turn = record {
    acts = s.acts ++ Says (client u) steps ∷ [];
    says = All-push IsSaid s.acts (Says (client u) steps) s.says own;
    leads = subst (λ (h : List (Call × Reply)). Leads old h new) (sym (history_more s.acts (Says (client u) steps))) (leads_join old (history s.acts) mid steps new s.leads leads);
    clients = map-set_same client are i v u (same_client ∙ ap client is) ∙ s.clients;
    bounds = map-set_same bound are i v u (same_bound ∙ ap bound is) ∙ s.bounds;
    plans = map-set_same plan are i v u (same_plan ∙ ap plan is) ∙ s.plans;
    fitting = λ calls all j d within. fit calls (s.fitting calls all) j d within;
    turns = turns_push numbers s.acts (client u) (Says (client u) steps) s.turns refl;
    keeps = λ calls all. keeps_push (plan_rule kind.turn (map (seat_of kind) was)) calls s.acts (Says (client u) steps) (s.keeps calls all)
        (plan u, seated was are i u s.clients s.plans lt is, turn (said_by (client u) (calls ++ history s.acts)) (its calls (s.fitting calls all)));
  }
    where
      its : (calls : List (Call × Reply)) → All (λ w. fits w (said_by (client w) (calls ++ history s.acts))) are → fits u (said_by (client u) (calls ++ history s.acts))
      its calls all = subst (λ w. fits w (said_by (client w) (calls ++ history s.acts))) (sym is) (all i u lt)

      rises : IsStrictlyIncreasing (map client are)
      rises = subst IsStrictlyIncreasing (sym s.clients) rising

      joined : (calls : List (Call × Reply)) (c : ℕ) → said_by c (calls ++ history (s.acts ++ Says (client u) steps ∷ [])) ≡ said_by c (calls ++ history s.acts) ++ said_by c steps
      joined calls c = ap (λ (h : List (Call × Reply)). said_by c (calls ++ h)) (history_more s.acts (Says (client u) steps)) ∙ ap (said_by c) (sym (append_assoc calls (history s.acts) steps)) ∙ said_append c (calls ++ history s.acts) steps

      here : (calls : List (Call × Reply)) → All (λ w. fits w (said_by (client w) (calls ++ history s.acts))) are → fits v (said_by (client v) (calls ++ history (s.acts ++ Says (client u) steps ∷ [])))
      here calls all = subst (λ c. fits v (said_by c (calls ++ history (s.acts ++ Says (client u) steps ∷ [])))) (sym same_client)
          (subst (fits v) (sym (joined calls (client u))) (goes_on (said_by (client u) (calls ++ history s.acts)) (its calls all)))

      there : (calls : List (Call × Reply)) (w : U) → (client u ≡ client w → ⊥) → fits w (said_by (client w) (calls ++ history s.acts)) → fits w (said_by (client w) (calls ++ history (s.acts ++ Says (client u) steps ∷ [])))
      there calls w other fit = subst (fits w) (sym (joined calls (client w) ∙ ap (λ (x : List (Call × Reply)). said_by (client w) (calls ++ history s.acts) ++ x) (other_said (client w) (client u) steps other own) ∙ append-nil (said_by (client w) (calls ++ history s.acts)))) fit

      fit : (calls : List (Call × Reply)) → All (λ w. fits w (said_by (client w) (calls ++ history s.acts))) are → (j : ℕ) (d : U) → j < length (set are i v) → fits (get_or (set are i v) j d) (said_by (client (get_or (set are i v) j d)) (calls ++ history (s.acts ++ Says (client u) steps ∷ [])))
      fit calls all j d within = ⊎_elim
          (λ same. subst (λ w. fits w (said_by (client w) (calls ++ history (s.acts ++ Says (client u) steps ∷ [])))) (sym (ap (λ k. get_or (set are i v) k d) same ∙ get_or-set_same are i v d lt)) (here calls all))
          (λ other. subst (λ w. fits w (said_by (client w) (calls ++ history (s.acts ++ Says (client u) steps ∷ [])))) (sym (get_or-set_other are i j v d other))
          (there calls (get_or are j d) (λ e. apart (map client are) i j rises (λ x. other (sym x)) (subst (λ l. i < l) (sym (length-map are client)) lt) (subst (λ l. j < l) (sym (length-map are client)) (long j within))
          (at_map client are i u lt ∙ ap client (sym is) ∙ e ∙ sym (at_map client are j d (long j within)))) (all j d (long j within))))
          (cases_eq j i)
        where
          long : (j : ℕ) → j < length (set are i v) → j < length are
          long j within = subst (λ l. j < l) (length-set are i v) within

  -- the clients that had their turns, with one more
  pub turns_next : (was are : List U) (i : ℕ) (u : U) → map client are ≡ map client was → i < length are → u ≡ get_or are i u → take i (map client was) ++ client u ∷ [] ≡ take (i + 1) (map client was)
  turns_next was are i u same lt is = ap (λ n. take i (map client was) ++ n ∷ []) (sym (at_map client are i u lt ∙ ap client (sym is)) ∙ ap (λ ns. get_or ns i 0) same)
      ∙ sym (take_more (map client was) i 0 (subst (λ l. i < l) (sym (length-map are client) ∙ ap (λ (ns : List ℕ). length ns) same) lt))

  -- what was heard before steps is heard behind them
  pub heard_on : (numbers : List ℕ) (old new : DeskState) (was are : List U) → Heard client fits old was → Stepped kind numbers old was new are → Heard client fits new are
  heard_on numbers old new was are h s = record {
    setup = h.setup;
    epoch = h.epoch;
    left = h.left;
    calls = h.calls ++ history s.acts;
    opened = subst (MayOpen h.setup h.epoch h.left) (sym s.clients) h.opened;
    leads = subst (λ ns. Leads (new_desk h.setup h.epoch h.left ns) (h.calls ++ history s.acts) new) (sym s.clients) (leads_join (new_desk h.setup h.epoch h.left (map client was)) h.calls old (history s.acts) new h.leads s.leads);
    fitting = s.fitting h.calls h.fitting;
  }

  contains : (us : List U) (i : ℕ) (u : U) → i < length us → u ≡ get_or us i u → Contains (map client us) (client u)
  contains us i u lt is = (i, subst (λ l. i < l) (sym (length-map us client)) lt, get_or-map client us i u (client u) lt ∙ ap client (sym is))

  -- the desk agrees with what each runner was told
  pub agreed : (d : DeskState) (us : List U) (i : ℕ) (u : U) → Heard client fits d us → i < length us → u ≡ get_or us i u → (said : List (Call × Reply)) × fits u said × Agrees d (client u) said
  agreed d us i u h lt is = (
    said_by (client u) h.calls,
    subst (λ w. fits w (said_by (client w) h.calls)) (sym is) (h.fitting i u lt),
    calls_agree h.setup h.epoch h.left (map client us) h.calls d (client u) h.opened h.leads (contains us i u lt is),
  )
