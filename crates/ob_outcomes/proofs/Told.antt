-- The records of a run are those that its acts tell.
use Rattle.std.proofs.Common.{◌≡◌, ◌∙◌, ◌++◌, ℕ, List, [], ◌∷◌, Option, Some, None, sym, subst, refl, ap}
use Rattle.std.specs.List.{All}
use Rattle.std.proofs.lemmas.List.{append_assoc}
use Rattle.std.proofs.lemmas.List.Elements.{All-head, All-tail, All-cons, All-nil}
use Rattle.ob_base.specs.declared.fault.Fault.TheVariants.{SinkFault}
use Rattle.ob_serial.specs.Serial.{EpochRecord}
use Rattle.ob_desk.specs.Desk as desk
use Rattle.ob_desk.specs.Desk.{DeskState, DeskStep, Call, Reply, published, records_told}
use Rattle.ob_desk.specs.declared.calls.Look.{Look}
use Rattle.ob_desk.specs.Beats.{BeatKind}
use Rattle.ob_session.specs.Steps.{Leads, IsOwn}
use Rattle.ob_conduct.specs.Acts.{Act, Says, Halts, Rests, Takes, Delivers, DeliverFails, FetchFails, RestUnwatched, Closes, Publishes, Refuses, Unprinted, Unwatched, Batch, desk_calls, rest_calls, close_calls, history, records, IsAllowed}
use Rattle.ob_outcomes.proofs.Walk.{leads_split}
use Rattle.ob_outcomes.proofs.EndsWell.{EndsWell, AreWell}

pub published_append : (xs ys : List (Call × Reply)) → published (xs ++ ys) ≡ published xs ++ published ys
published_append [] ys = refl
published_append (step ∷ xs) ys = ap (λ l. records_told step.1 ++ l) (published_append xs ys) ∙ sym (append_assoc (records_told step.1) (published xs) (published ys))

-- a client's call tells no record
own_tells : (client : ℕ) (d : DeskState) (call : Call) (reply : Reply) (new : DeskState) → IsOwn client (call, reply) → DeskStep d call reply new → records_told reply ≡ []
own_tells c d (desk.Begin client) (desk.Begun x) new own step = refl
own_tells c d (desk.Begin client) (desk.Refused f) new own step = refl
own_tells c d (desk.GetKey x k) (desk.Value value) new own step = refl
own_tells c d (desk.GetKey x k) desk.Waits new own step = refl
own_tells c d (desk.GetKey x k) (desk.Aborted why) new own step = refl
own_tells c d (desk.Poll x) (desk.Value value) new own step = refl
own_tells c d (desk.Poll x) desk.Waits new own step = refl
own_tells c d (desk.Poll x) (desk.Aborted why) new own step = refl
own_tells c d (desk.Write x k value) desk.Done new own step = refl
own_tells c d (desk.Write x k value) (desk.Aborted why) new own step = refl
own_tells c d (desk.Commit x) desk.Done new own step = refl
own_tells c d (desk.Commit x) (desk.Aborted why) new own step = refl
own_tells c d (desk.Abort x) (desk.Aborted why) new own step = refl
own_tells c d (desk.Settled x) (desk.IsSettled outcome) new own step = refl
own_tells c d (desk.SignOff client) desk.Done new own step = refl
own_tells c d (desk.Stop f) desk.Done new own step = refl
own_tells c d desk.IsStopped (desk.StoppedBy fault) new own step = refl
own_tells c d desk.Looks reply new own step = absurd own
own_tells c d (desk.Unsure f) reply new own step = absurd own
own_tells c d desk.TakeBatch reply new own step = absurd own
own_tells c d (desk.Deliver keys values) reply new own step = absurd own
own_tells c d desk.Close reply new own step = absurd own
own_tells c d (desk.Publish epoch left) reply new own step = absurd own
own_tells c d _ _ new own step = absurd step

own_calls_tell : (client : ℕ) (d : DeskState) (steps : List (Call × Reply)) (new : DeskState) → All (IsOwn client) steps → Leads d steps new → published steps ≡ []
own_calls_tell c d [] new own run = refl
own_calls_tell c d (step ∷ steps) new own (mid, may, made, run) =
    ap (λ l. l ++ published steps) (own_tells c d step.0 step.1 mid (All-head (IsOwn c) step steps own) made) ∙ own_calls_tell c mid steps new (All-tail (IsOwn c) step steps own) run

-- batches tell none
pub published_batches : (batches : List Batch) (more : List (Call × Reply)) → published (rest_calls batches ++ more) ≡ published more
published_batches [] more = refl
published_batches (batch ∷ batches) more = published_batches batches more

-- nor does any act but a publish
abbrev IsNoPublish : Act → Type 0
IsNoPublish (Publishes writes left told) = ⊥
IsNoPublish _ = Unit {0}

act_tells : (beat : BeatKind) (d : DeskState) (act : Act) (new : DeskState) → IsAllowed beat act → Leads d (desk_calls act) new → IsNoPublish act → published (desk_calls act) ≡ []
act_tells beat d (Says client steps) new allowed run other = own_calls_tell client d steps new allowed run
act_tells beat d (Halts fault) new allowed run other = refl
act_tells beat d (Rests look) new allowed run other = refl
act_tells beat d (Takes look keys) new allowed run other = refl
act_tells beat d (Delivers batch) new allowed run other = refl
act_tells beat d (DeliverFails keys fault) new allowed run other = refl
act_tells beat d (FetchFails look batches keys fault) new allowed run other = published_batches batches ((desk.TakeBatch, desk.Batch keys) ∷ (desk.Stop fault, desk.Done) ∷ [])
act_tells beat d (RestUnwatched look batches) new allowed run other = published_batches batches ((desk.Stop SinkFault, desk.Done) ∷ [])
act_tells beat d (Closes look batches writes) new allowed run other = published_batches batches (close_calls writes)
act_tells beat d (Publishes writes left told) new allowed run other = absurd other
act_tells beat d (Refuses writes refused) new allowed run other = refl
act_tells beat d Unprinted new allowed run other = refl
act_tells beat d Unwatched new allowed run other = refl

module _ (beat : BeatKind) (P : EpochRecord ℕ → Type 0) (tells : (look : Look) (told : EpochRecord ℕ) → EndsWell beat look told → P told) where
  -- behind an act that tells none
  silent : (d : DeskState) (act : Act) (acts : List Act) (new : DeskState) → IsAllowed beat act → Leads d (desk_calls act) new → IsNoPublish act → All P (records acts) → All P (records (act ∷ acts))
  silent d act acts new allowed run other rest = subst (All P) (sym (published_append (desk_calls act) (history acts) ∙ ap (λ l. l ++ records acts) (act_tells beat d act new allowed run other))) rest

  pub records_tell_all : (closed : Option Look) (d : DeskState) (acts : List Act) (new : DeskState) → All (IsAllowed beat) acts → AreWell beat closed acts → Leads d (history acts) new → All P (records acts)
  records_tell_all closed d [] new allowed well run = All-nil P
  records_tell_all closed d (Publishes writes left told ∷ acts) new allowed (look, at, ends, well) run =
      let (mid, first, rest) = leads_split d (desk_calls (Publishes writes left told)) (history acts) new run in
      All-cons P told (records acts) (tells look told ends) (records_tell_all None mid acts new (All-tail (IsAllowed beat) (Publishes writes left told) acts allowed) well rest)
  records_tell_all closed d (Says client steps ∷ acts) new allowed well run =
      let (mid, first, rest) = leads_split d (desk_calls (Says client steps)) (history acts) new run in
      silent d (Says client steps) acts mid (All-head (IsAllowed beat) (Says client steps) acts allowed) first tt (records_tell_all closed mid acts new (All-tail (IsAllowed beat) (Says client steps) acts allowed) well rest)
  records_tell_all closed d (Halts fault ∷ acts) new allowed well run =
      let (mid, first, rest) = leads_split d (desk_calls (Halts fault)) (history acts) new run in
      silent d (Halts fault) acts mid (All-head (IsAllowed beat) (Halts fault) acts allowed) first tt (records_tell_all closed mid acts new (All-tail (IsAllowed beat) (Halts fault) acts allowed) well rest)
  records_tell_all closed d (Rests look ∷ acts) new allowed well run =
      let (mid, first, rest) = leads_split d (desk_calls (Rests look)) (history acts) new run in
      silent d (Rests look) acts mid (All-head (IsAllowed beat) (Rests look) acts allowed) first tt (records_tell_all closed mid acts new (All-tail (IsAllowed beat) (Rests look) acts allowed) well rest)
  records_tell_all closed d (Takes look keys ∷ acts) new allowed well run =
      let (mid, first, rest) = leads_split d (desk_calls (Takes look keys)) (history acts) new run in
      silent d (Takes look keys) acts mid (All-head (IsAllowed beat) (Takes look keys) acts allowed) first tt (records_tell_all closed mid acts new (All-tail (IsAllowed beat) (Takes look keys) acts allowed) well rest)
  records_tell_all closed d (Delivers batch ∷ acts) new allowed well run =
      let (mid, first, rest) = leads_split d (desk_calls (Delivers batch)) (history acts) new run in
      silent d (Delivers batch) acts mid (All-head (IsAllowed beat) (Delivers batch) acts allowed) first tt (records_tell_all closed mid acts new (All-tail (IsAllowed beat) (Delivers batch) acts allowed) well rest)
  records_tell_all closed d (DeliverFails keys fault ∷ acts) new allowed well run =
      let (mid, first, rest) = leads_split d (desk_calls (DeliverFails keys fault)) (history acts) new run in
      silent d (DeliverFails keys fault) acts mid (All-head (IsAllowed beat) (DeliverFails keys fault) acts allowed) first tt (records_tell_all closed mid acts new (All-tail (IsAllowed beat) (DeliverFails keys fault) acts allowed) well rest)
  records_tell_all closed d (FetchFails look batches keys fault ∷ acts) new allowed well run =
      let (mid, first, rest) = leads_split d (desk_calls (FetchFails look batches keys fault)) (history acts) new run in
      silent d (FetchFails look batches keys fault) acts mid (All-head (IsAllowed beat) (FetchFails look batches keys fault) acts allowed) first tt (records_tell_all closed mid acts new (All-tail (IsAllowed beat) (FetchFails look batches keys fault) acts allowed) well rest)
  records_tell_all closed d (RestUnwatched look batches ∷ acts) new allowed well run =
      let (mid, first, rest) = leads_split d (desk_calls (RestUnwatched look batches)) (history acts) new run in
      silent d (RestUnwatched look batches) acts mid (All-head (IsAllowed beat) (RestUnwatched look batches) acts allowed) first tt (records_tell_all closed mid acts new (All-tail (IsAllowed beat) (RestUnwatched look batches) acts allowed) well rest)
  records_tell_all closed d (Closes look batches writes ∷ acts) new allowed well run =
      let (mid, first, rest) = leads_split d (desk_calls (Closes look batches writes)) (history acts) new run in
      silent d (Closes look batches writes) acts mid (All-head (IsAllowed beat) (Closes look batches writes) acts allowed) first tt (records_tell_all (Some look) mid acts new (All-tail (IsAllowed beat) (Closes look batches writes) acts allowed) well rest)
  records_tell_all closed d (Refuses writes refused ∷ acts) new allowed well run =
      let (mid, first, rest) = leads_split d (desk_calls (Refuses writes refused)) (history acts) new run in
      silent d (Refuses writes refused) acts mid (All-head (IsAllowed beat) (Refuses writes refused) acts allowed) first tt (records_tell_all closed mid acts new (All-tail (IsAllowed beat) (Refuses writes refused) acts allowed) well rest)
  records_tell_all closed d (Unprinted ∷ acts) new allowed well run =
      let (mid, first, rest) = leads_split d (desk_calls Unprinted) (history acts) new run in
      silent d Unprinted acts mid (All-head (IsAllowed beat) Unprinted acts allowed) first tt (records_tell_all closed mid acts new (All-tail (IsAllowed beat) Unprinted acts allowed) well rest)
  records_tell_all closed d (Unwatched ∷ acts) new allowed well run =
      let (mid, first, rest) = leads_split d (desk_calls Unwatched) (history acts) new run in
      silent d Unwatched acts mid (All-head (IsAllowed beat) Unwatched acts allowed) first tt (records_tell_all closed mid acts new (All-tail (IsAllowed beat) Unwatched acts allowed) well rest)
