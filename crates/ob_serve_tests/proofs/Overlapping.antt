-- A runner that asks again how the transaction ended that it gave up.
use Rattle.std.proofs.Common.{◌≡◌, ◌∙◌, ℕ, true, false, cond, All, List, [], ◌∷◌, ◌++◌, Option, None, Some, option_map, refl, sym, ap, subst, inl, eq-eqb, append-nil}
use Rattle.std.proofs.lemmas.Bool.{false≢true}
use Rattle.std.proofs.lemmas.List.Elements.{All-nil, All-cons, All-head}
use Rattle.std.specs.Option.{is_some}
use Rattle.ob_base.specs.declared.fault.Fault.TheVariants.{Memory}
use Rattle.ob_desk.specs.Desk as desk
use Rattle.ob_desk.specs.Desk.{DeskState, Call, Reply, IsLast, AbortedBy, Asked, client_at, outcome_at}
use Rattle.ob_desk.specs.declared.calls.Txn.{Txn}
use Rattle.ob_serial.specs.declared.records.Outcome.{Outcome}
use Rattle.ob_session.specs.declared.made.Said.{Said}
use Rattle.ob_session.specs.declared.made.Made.{Made}
use Rattle.ob_session.specs.Steps.{step_of, steps_in, steps_of, Leads, IsOwn}
use Rattle.ob_session.specs.Clients.{Told, begun, told_after, told_of, last_of, is_of, said_by, has_signed_off, was_refused, stands_behind, stands_after, IsOneCall}
use Rattle.ob_session.specs.Agreeing.{Agrees, IsLastKnown}
use Rattle.ob_session.specs.declared.runner.Step.TheVariants as stands
use Rattle.ob_hall.specs.Passes.{Steps}
use Rattle.ob_runner.specs.Places.{RunnerState, Fits, IsStanding}
use Rattle.ob_runner.proofs.Tellings.{last_more, told_more, signed_same, refused_same}
use Rattle.ob_run.specs.Ends.{QuietRule}
use Rattle.ob_serve_tests.specs.declared.first.First.{First}
use Rattle.ob_serve_tests.specs.declared.first.First.TheVariants as first
use Rattle.ob_serve_tests.specs.Overlaps.{IsGivenUp, HasComeTo}

own_said : (client : ℕ) (one : Call × Reply) → is_of client one.0 ≡ true → said_by client (one ∷ []) ≡ one ∷ []
own_said client one own = ap (λ b. cond b (one ∷ []) []) own

pub begun_at : (client number : ℕ) (x : Txn) (said : Steps) → said ≡ [] → number ≡ client → said ++ said_by client ((desk.Begin number, desk.Begun x) ∷ []) ≡ (desk.Begin client, desk.Begun x) ∷ []
begun_at client number x said none mine =
    ap (λ (s : Steps). s ++ said_by client ((desk.Begin number, desk.Begun x) ∷ [])) none
    ∙ own_said client (desk.Begin number, desk.Begun x) (eq-eqb number client mine)
    ∙ ap (λ (n : ℕ). (desk.Begin n, desk.Begun x) ∷ []) mine

pub given_up : (client : ℕ) (x y : Txn) (said : Steps) → said ≡ (desk.Begin client, desk.Begun x) ∷ [] → x.client ≡ y.client → y.client ≡ client → IsGivenUp x client (said ++ said_by client ((desk.Abort y, desk.Aborted Asked) ∷ []))
given_up client x y said is same mine =
    let all : said ++ said_by client ((desk.Abort y, desk.Aborted Asked) ∷ []) ≡ (desk.Begin client, desk.Begun x) ∷ (desk.Abort y, desk.Aborted Asked) ∷ [] =
    ap (λ (s : Steps). s ++ said_by client ((desk.Abort y, desk.Aborted Asked) ∷ [])) is
    ∙ ap (λ (s : Steps). (desk.Begin client, desk.Begun x) ∷ s) (own_said client (desk.Abort y, desk.Aborted Asked) (eq-eqb y.client client mine)) in
    record { named = same ∙ mine; told = ap told_of all; here = ap has_signed_off all; ran = ap stands_after all }

-- ---- how far it has come behind a step of one call

none_there : {A : Type 0} (o : Option A) → is_some o ≡ false → o ≡ None
none_there None none = refl
none_there (Some x) none = absurd (false≢true (sym none))

pub one_step : (made : Made) (one : Said) → made.first ≡ Some one → is_some made.second ≡ false → is_some made.third ≡ false → steps_of made ≡ step_of one ∷ []
one_step made one first second third =
    ap (λ (o : Option Said). steps_in o ++ steps_in made.second ++ steps_in made.third) first
    ∙ ap (λ (o : Option Said). (step_of one ∷ []) ++ steps_in o ++ steps_in made.third) (none_there made.second second)
    ∙ ap (λ (o : Option Said). (step_of one ∷ []) ++ [] ++ steps_in o) (none_there made.third third)

pub comes_behind : (f g : First) (made : Made) (one : Said) → steps_of made ≡ step_of one ∷ []
    → ((client : ℕ) (before : Steps) → HasComeTo f client before → IsOwn client (step_of one) → HasComeTo g client (before ++ said_by client (step_of one ∷ [])))
    → (client : ℕ) (before : Steps) → HasComeTo f client before → All (IsOwn client) (steps_of made) → HasComeTo g client (before ++ said_by client (steps_of made))
comes_behind f g made one are step client before come own =
    subst (λ (s : Steps). HasComeTo g client (before ++ said_by client s)) (sym are) (step client before come (All-head (IsOwn client) (step_of one) [] (subst (All (IsOwn client)) are own)))

-- ---- the call that is made again
abbrev pub Again : Txn → Call × Reply
Again x = (desk.Settled x, desk.IsSettled (Some (AbortedBy Asked)))

module _ (client : ℕ) (x : Txn) (said : Steps) (is : IsGivenUp x client said) where
  own : said ++ said_by client (Again x ∷ []) ≡ said ++ Again x ∷ []
  own = ap (λ (s : Steps). said ++ s) (own_said client (Again x) (eq-eqb x.client client is.named))

  pub again : IsGivenUp x client (said ++ said_by client (Again x ∷ []))
  again = record {
    named = is.named;
    told = ap told_of own ∙ told_more said (Again x) ∙ ap (λ (ts : List Told). told_after ts (Again x)) is.told;
    here = ap has_signed_off own ∙ signed_same said (Again x) refl ∙ is.here;
    ran = ap stands_after own ∙ ap stands_behind (last_more said (Again x));
  }

  pub fits_again : (r : RunnerState) → Fits r said → Fits r (said ++ said_by client (Again x ∷ []))
  fits_again r f =
      let refused : was_refused (said ++ said_by client (Again x ∷ [])) ≡ was_refused said = ap was_refused own ∙ refused_same said (Again x) refl in
      record {
        before = f.before;
        now = f.now;
        below = f.below;
        told_is = again.told ∙ sym is.told ∙ f.told_is;
        past = f.past;
        placed = f.placed;
        named = f.named;
        standing = subst (IsStanding r.place) (is.ran ∙ sym again.ran) f.standing;
        signed_off = again.here ∙ sym is.here ∙ f.signed_off;
        refused = λ e. refused ∙ f.refused e;
        whole = λ e none. f.whole e (sym refused ∙ none);
      }

  pub quiet : (steps : Steps) → QuietRule client said steps
  quiet steps off = absurd (false≢true (sym is.here ∙ off))

  module _ (d : DeskState) (agrees : Agrees d client said) where
    pub may_ask : IsLast d x
    may_ask = record {
      client = agrees.client;
      found = ap (client_at d) is.named ∙ agrees.found;
      last = agrees.last ∙ ap (λ (ts : List Told). option_map (λ (t : Told). t.txn) (last_of ts)) is.told;
    }

    pub ended : outcome_at d x ≡ Some (AbortedBy Asked)
    ended = (subst (λ (ts : List Told). IsLastKnown d (last_of ts)) is.told agrees.known).0

-- ---- a step of one that has given its first transaction up

module _ (r : RunnerState) (f : First) (client : ℕ) (x : Txn) (given : f ≡ first.GivenUp x) where
  pub given_at : (said : Steps) → HasComeTo f client said → IsGivenUp x client said
  given_at said come = subst (λ (g : First). HasComeTo g client said) given come

  pub turn_given : (said steps : Steps) → HasComeTo f client said → QuietRule client said steps
  turn_given said steps come = quiet client x said (given_at said come) steps

  -- it asks again
  module _ (d : DeskState) (before : Steps) (come : HasComeTo f client before) (agrees : Agrees d client before) where
    pub may_settle : IsLast d x
    may_settle = may_ask client x before (given_at before come) d agrees

    module _ (steps : Steps) (outcome : Option (Outcome ℕ)) (told : outcome ≡ outcome_at d x) (are : steps ≡ (desk.Settled x, desk.IsSettled outcome) ∷ []) where
      are_again : steps ≡ Again x ∷ []
      are_again = are ∙ ap (λ (o : Option (Outcome ℕ)). (desk.Settled x, desk.IsSettled o) ∷ []) (told ∙ ended client x before (given_at before come) d agrees)

      pub leads_again : Leads d steps d
      leads_again = subst (λ (s : Steps). Leads d s d) (sym are) (d, may_settle, (told, refl), refl)

      pub one_again : (said : Steps) → IsOneCall said steps
      one_again said = subst (IsOneCall said) (sym are) (inl refl)

      pub own_again : All (IsOwn client) steps
      own_again = subst (All (IsOwn client)) (sym are) (All-cons (IsOwn client) (desk.Settled x, desk.IsSettled outcome) [] (given_at before come).named (All-nil (IsOwn client)))

      pub fits_asked : (said : Steps) → Fits r said → HasComeTo f client said → Fits r (said ++ said_by client steps) × HasComeTo f client (said ++ said_by client steps)
      fits_asked said fits is = subst (λ (s : Steps). Fits r (said ++ said_by client s) × HasComeTo f client (said ++ said_by client s)) (sym are_again)
          (fits_again client x said (given_at said is) r fits, subst (λ (g : First). HasComeTo g client (said ++ said_by client (Again x ∷ []))) (sym given) (again client x said (given_at said is)))

      pub stands_asked : (said : Steps) → HasComeTo f client said → stands.Ran ≡ stands_after (said ++ said_by client steps)
      stands_asked said is = subst (λ (s : Steps). stands.Ran ≡ stands_after (said ++ said_by client s)) (sym are_again) (sym (again client x said (given_at said is)).ran)

  -- it stops the desk
  module _ (steps : Steps) (are : steps ≡ (desk.Stop Memory, desk.Done) ∷ []) where
    pub one_stop : (said : Steps) → IsOneCall said steps
    one_stop said = subst (IsOneCall said) (sym are) (inl refl)

    pub own_stop : All (IsOwn client) steps
    own_stop = subst (All (IsOwn client)) (sym are) (All-cons (IsOwn client) (desk.Stop Memory, desk.Done) [] refl (All-nil (IsOwn client)))

    pub fits_stopped : (said : Steps) → Fits r said → Fits r (said ++ said_by client steps)
    fits_stopped said fits = subst (λ (s : Steps). Fits r (said ++ said_by client s)) (sym are) (subst (Fits r) (sym (append-nil said)) fits)

    pub stands_stopped : (said : Steps) → HasComeTo f client said → stands.Ran ≡ stands_after (said ++ said_by client steps)
    stands_stopped said is = subst (λ (s : Steps). stands.Ran ≡ stands_after (said ++ said_by client s)) (sym are) (sym (ap stands_after (append-nil said) ∙ (given_at said is).ran))
