-- What each turn of the driver's does to the map that the vault holds.
use Rattle.std.proofs.Common.{◌≡◌, ◌∙◌, ℕ, All, List, [], ◌∷◌, ◌++◌, flat_map, Option, None, Some, Err, refl, sym, ap, ap₂, subst, append-nil, append_assoc, nat_cmp, option_map, unwrap_or}
use Rattle.std.proofs.lemmas.List.Elements.{All-nil, All-head, All-tail, All-append}
use Rattle.ob_base.specs.declared.fault.Fault.{Fault}
use Rattle.ob_base.specs.declared.fault.Fault.TheVariants.{SinkFault}
use Rattle.ob_serial.specs.Serial.{Map, EpochRecord}
use Rattle.ob_serial.specs.Vaults as vaults
use Rattle.ob_serial.specs.Vaults.{VaultCall, VaultAnswer, Fetch, End, Ended, Values, RefusedBy, vault_next}
use Rattle.ob_serial.specs.VaultViews.{end_answer}
use Rattle.ob_serial.specs.VaultKinds.{Kind, AllCalled}
use Rattle.ob_serial.specs.declared.vault.EndErr.{EndErr}
use Rattle.ob_serial.specs.declared.vault.EndErr.TheVariants.{Before, Unsure}
use Rattle.ob_order.specs.Works.{last_writes}
use Rattle.ob_desk.specs.Desk as desk
use Rattle.ob_desk.specs.Desk.{DeskState, Part, Setup, CloseStep, Run, base_map}
use Rattle.ob_desk.specs.declared.calls.Look.{Look}
use Rattle.ob_session.specs.Steps.{Leads}
use Rattle.ob_hall.specs.Passes.{Steps}
use Rattle.ob_conduct.specs.Acts.{Act, Halts, Rests, Takes, Delivers, DeliverFails, FetchFails, RestUnwatched, Closes, Publishes, Refuses, Unprinted, Unwatched, Batch, history, calls, look_calls, rest_calls, rest_fetches, close_calls, publish_calls, stop_calls, stop_for}
use Rattle.ob_conduct.specs.Rounds.{IsOneThing}
use Rattle.ob_conduct.specs.Records.{HoldsMap}
use Rattle.ob_driver.specs.Turning.{IsOneTurn}
use Rattle.ob_run.proofs.Chains.{leads_split, called_split, IsPlain, plain_run, plain_more, plain_one, still_holds, fed, rest_plain}

look_plain : (m : Map nat_cmp) (look : Look) (more : Steps) → All (IsPlain m) more → All (IsPlain m) (look_calls look ++ more)
look_plain m look more plain = plain_more m desk.IsStopped (desk.StoppedBy None) ((desk.Looks, desk.Seen look) ∷ more) (tt, λ d. refl) (plain_more m desk.Looks (desk.Seen look) more (tt, λ d. refl) plain)

stop_plain : (m : Map nat_cmp) (refused : EndErr) → All (IsPlain m) ((stop_for refused, desk.Done) ∷ [])
stop_plain m (Before fault) = plain_one m (desk.Stop fault) desk.Done (tt, λ d. refl)
stop_plain m (Unsure fault) = plain_one m (desk.Unsure fault) desk.Done (tt, λ d. refl)

-- what a run over a map and a vault leaves
pub record Serves {V : Type 0} (k : Kind V) (m : Map nat_cmp) (d : DeskState) (steps : Steps) (new : DeskState) (w : V) : Type 0 where
  pub next : Map nat_cmp
  pub run : Run m d steps next new
  pub holds : HoldsMap k w next

-- ---- what is due

abbrev pub Writes : Type 0
Writes = List (ℕ × Option (List ℕ))

-- A close has an end to come, with its writes.
abbrev pub next_due : Act → Option Writes
next_due (Closes look batches writes) = Some writes
next_due _ = None

abbrev pub due_behind : Option Writes → List Act → Option Writes
due_behind due [] = due
due_behind due (act ∷ acts) = due_behind (next_due act) acts

-- what is published, or refused, has the writes of the act before, which closed the epoch
abbrev IsEndOf : Option Writes → Act → Type 0
IsEndOf due (Publishes ended left told) = due ≡ Some ended
IsEndOf due (Refuses asked refused) = due ≡ Some asked
IsEndOf due _ = Unit {0}

abbrev pub AreEnded : Option Writes → List Act → Type 0
AreEnded due [] = Unit {0}
AreEnded due (act ∷ acts) = IsEndOf due act × AreEnded (next_due act) acts

pub ended_split : (due : Option Writes) (xs ys : List Act) → AreEnded due (xs ++ ys) → AreEnded due xs × AreEnded (due_behind due xs) ys
ended_split due [] ys ended = (tt, ended)
ended_split due (x ∷ xs) ys (one, more) = let (front, back) = ended_split (next_due x) xs ys more in ((one, front), back)

thing_ended : (thing more : List Act) → IsOneThing thing → AreEnded None more → AreEnded None (thing ++ more)
thing_ended (Halts fault ∷ []) more one ended = (tt, ended)
thing_ended (Rests look ∷ []) more one ended = (tt, ended)
thing_ended (Takes look keys ∷ Delivers batch ∷ []) more one ended = (tt, (tt, ended))
thing_ended (Takes look keys ∷ Delivers batch ∷ Unwatched ∷ []) more one ended = (tt, (tt, (tt, ended)))
thing_ended (Takes look keys ∷ DeliverFails asked fault ∷ []) more one ended = (tt, (tt, ended))
thing_ended (FetchFails look batches keys fault ∷ []) more one ended = (tt, ended)
thing_ended (RestUnwatched look batches ∷ []) more one ended = (tt, ended)
thing_ended (Closes look batches writes ∷ Publishes ended left told ∷ []) more one behind = (tt, (ap (λ (ws : Writes). Some ws) (sym one), behind))
thing_ended (Closes look batches writes ∷ Publishes ended left told ∷ Unprinted ∷ []) more one behind = (tt, (ap (λ (ws : Writes). Some ws) (sym one), (tt, behind)))
thing_ended (Closes look batches writes ∷ Publishes ended left told ∷ Unwatched ∷ []) more one behind = (tt, (ap (λ (ws : Writes). Some ws) (sym one), (tt, behind)))
thing_ended (Closes look batches writes ∷ Refuses asked refused ∷ []) more one ended = (tt, (ap (λ (ws : Writes). Some ws) (sym one), ended))
thing_ended _ more one ended = absurd one

pub things_ended : (things : List (List Act)) → All IsOneThing things → AreEnded None (flat_map (λ (thing : List Act). thing) things)
things_ended [] each = tt
things_ended (thing ∷ things) each =
    thing_ended thing (flat_map (λ (t : List Act). t) things) (All-head IsOneThing thing things each) (things_ended things (All-tail IsOneThing thing things each))

-- where an epoch is due, its writes make of the map the one below the running part
abbrev pub IsOwed : Map nat_cmp → DeskState → Option Writes → Type 0
IsOwed m d None = Unit {0}
IsOwed m d (Some writes) = vaults.with_writes m writes ≡ base_map m d

-- so it stays where nothing else is closed
pub owed_stays : (m : Map nat_cmp) (x z : DeskState) (due : Option Writes) → z.closed ≡ x.closed → z.setup ≡ x.setup → IsOwed m x due → IsOwed m z due
owed_stays m x z None closed setup owed = tt
owed_stays m x z (Some writes) closed setup owed =
    owed ∙ ap₂ (λ (c : Option Part) (s : Setup). unwrap_or (option_map (λ (p : Part). vaults.with_writes m (last_writes s.params.keys p.order.works)) c) m) (sym closed) (sym setup)

-- what acts over a map and a vault leave, and what is due behind them
pub record ServesDue {V : Type 0} (k : Kind V) (m : Map nat_cmp) (d : DeskState) (steps : Steps) (new : DeskState) (w : V) (due : Option Writes) : Type 0 where
  pub serves : Serves k m d steps new w
  pub owed : IsOwed serves.next new due

module _ {V : Type 0} (k : Kind V) (m : Map nat_cmp) (d new : DeskState) (v w : V) where
  plain : (steps : Steps) → All (IsPlain m) steps → Leads d steps new → HoldsMap k w m → Serves k m d steps new w
  plain steps are leads held = record { next = m; run = plain_run m d steps new are leads; holds = held }

  none_called : AllCalled k v [] w → HoldsMap k v m → HoldsMap k w m
  none_called same held = subst (λ (x : V). HoldsMap k x m) (sym same) held

  refused_end : (writes : List (ℕ × Option (List ℕ))) (refused : EndErr) → AllCalled k v ((End writes, end_answer (Err refused)) ∷ []) w → HoldsMap k v m → HoldsMap k w m
  refused_end writes (Before fault) (mid, one, same) held = subst (λ (x : V). HoldsMap k x m) (sym same) (still_holds k v mid (End writes) (RefusedBy fault) m one held (λ u. refl))
  refused_end writes (Unsure fault) (mid, one, same) held = subst (λ (x : V). HoldsMap k x m) (sym same) (still_holds k v mid (End writes) (vaults.DoubtBy fault) m one held (λ u. refl))

-- the vault's map behind the end is that below the desk's running part
ended_map : (d mid : DeskState) (writes : List (ℕ × Option (List ℕ))) (m : Map nat_cmp) → CloseStep d writes mid → vaults.with_writes m writes ≡ base_map m mid
ended_map d mid writes m e = ap (vaults.with_writes m) e.batch ∙ sym (ap (λ (x : DeskState). base_map m x) e.state)

module _ {V : Type 0} (k : Kind V) (m : Map nat_cmp) (d new : DeskState) (v w : V) (held : HoldsMap k v m) where
  batch_fails : (look : Look) (batches : List Batch) (keys : List (Option ℕ)) (fault : Fault) → Leads d (history (FetchFails look batches keys fault ∷ [])) new → AllCalled k v (calls (FetchFails look batches keys fault ∷ [])) w
      → Serves k m d (history (FetchFails look batches keys fault ∷ [])) new w
  batch_fails look batches keys fault leads chain =
      let whole : AllCalled k v (rest_fetches batches ++ (Fetch keys, RefusedBy fault) ∷ []) w = subst (λ (asked : List (VaultCall × VaultAnswer)). AllCalled k v asked w) (append-nil (rest_fetches batches ++ (Fetch keys, RefusedBy fault) ∷ [])) chain in
      let (mid, front, back) = called_split k v (rest_fetches batches) ((Fetch keys, RefusedBy fault) ∷ []) w whole in
      let (rest, later) = rest_plain k m batches v mid front held in
      let (far, one, end) = back in
      let tail : All (IsPlain m) ((desk.TakeBatch, desk.Batch keys) ∷ (desk.Stop fault, desk.Done) ∷ []) = plain_more m desk.TakeBatch (desk.Batch keys) ((desk.Stop fault, desk.Done) ∷ []) (tt, λ x. refl) (plain_one m (desk.Stop fault) desk.Done (tt, λ x. refl)) in
      plain k m d new v w (history (FetchFails look batches keys fault ∷ []))
      (All-append (IsPlain m) (look_calls look ++ (rest_calls batches ++ (desk.TakeBatch, desk.Batch keys) ∷ (desk.Stop fault, desk.Done) ∷ [])) []
      (look_plain m look (rest_calls batches ++ (desk.TakeBatch, desk.Batch keys) ∷ (desk.Stop fault, desk.Done) ∷ []) (All-append (IsPlain m) (rest_calls batches) ((desk.TakeBatch, desk.Batch keys) ∷ (desk.Stop fault, desk.Done) ∷ []) rest tail)) (All-nil (IsPlain m)))
      leads
      (subst (λ (x : V). HoldsMap k x m) (sym end) (still_holds k mid far (Fetch keys) (RefusedBy fault) m one later (λ u. refl)))

  rest_unwatched : (look : Look) (batches : List Batch) → Leads d (history (RestUnwatched look batches ∷ [])) new → AllCalled k v (calls (RestUnwatched look batches ∷ [])) w → Serves k m d (history (RestUnwatched look batches ∷ [])) new w
  rest_unwatched look batches leads chain =
      let (rest, later) = rest_plain k m batches v w (subst (λ (asked : List (VaultCall × VaultAnswer)). AllCalled k v asked w) (append-nil (rest_fetches batches)) chain) held in
      plain k m d new v w (history (RestUnwatched look batches ∷ []))
      (All-append (IsPlain m) (look_calls look ++ (rest_calls batches ++ stop_calls SinkFault)) []
      (look_plain m look (rest_calls batches ++ stop_calls SinkFault) (All-append (IsPlain m) (rest_calls batches) (stop_calls SinkFault) rest (plain_one m (desk.Stop SinkFault) desk.Done (tt, λ x. refl)))) (All-nil (IsPlain m)))
      leads later

  -- the calls before what comes of a close
  closed_plain : (look : Look) (batches : List Batch) (writes : List (ℕ × Option (List ℕ))) → All (IsPlain m) (rest_calls batches) → All (IsPlain m) (look_calls look ++ (rest_calls batches ++ close_calls writes))
  closed_plain look batches writes rest = look_plain m look (rest_calls batches ++ close_calls writes) (All-append (IsPlain m) (rest_calls batches) (close_calls writes) rest (plain_one m desk.Close (desk.Writes writes) (tt, λ x. refl)))

  -- an epoch was closed, and the vault hasn't ended it yet
  closes : (look : Look) (batches : List Batch) (writes : Writes) → Leads d (history (Closes look batches writes ∷ [])) new → AllCalled k v (calls (Closes look batches writes ∷ [])) w → ServesDue k m d (history (Closes look batches writes ∷ [])) new w (Some writes)
  closes look batches writes leads chain =
      let whole : AllCalled k v (rest_fetches batches) w = subst (λ (asked : List (VaultCall × VaultAnswer)). AllCalled k v asked w) (append-nil (rest_fetches batches)) chain in
      let (rest, later) = rest_plain k m batches v w whole held in
      let again : Leads d ((look_calls look ++ rest_calls batches) ++ close_calls writes) new = subst (λ (s : Steps). Leads d s new) (append-nil (look_calls look ++ (rest_calls batches ++ close_calls writes)) ∙ sym (append_assoc (look_calls look) (rest_calls batches) (close_calls writes))) leads in
      let (open_desk, looked, behind) = leads_split d (look_calls look ++ rest_calls batches) (close_calls writes) new again in
      let (there, may_close, closed, is_new) = behind in
      record {
        serves = record {
          next = m;
          run = plain_run m d (history (Closes look batches writes ∷ [])) new
              (All-append (IsPlain m) (look_calls look ++ (rest_calls batches ++ close_calls writes)) [] (closed_plain look batches writes rest) (All-nil (IsPlain m))) leads;
          holds = later;
        };
        owed = ended_map open_desk new writes m (subst (λ (x : DeskState). CloseStep open_desk writes x) (sym is_new) closed);
      }

  -- one that was closed before was ended
  publishes : (ended : Writes) (left : ℕ) (told : EpochRecord ℕ) → vaults.with_writes m ended ≡ base_map m d → Leads d (publish_calls left told) new → AllCalled k v ((End ended, Ended) ∷ []) w → Serves k m d (publish_calls left told) new w
  publishes ended left told same (last_desk, may, published, is_new) (far, one, end) = record {
    next = base_map m d;
    run = (last_desk, may, published, tt, (refl, is_new));
    holds = subst (λ (x : V). HoldsMap k x (base_map m d)) (sym end) (vault_next held.0 (End ended) Ended, one.holds held.0 held.1, ap (λ (n : Map nat_cmp). vaults.with_writes n ended) held.2 ∙ same);
  }

  none_due : (steps : Steps) → Serves k m d steps new w → ServesDue k m d steps new w None
  none_due steps s = record { serves = s; owed = tt }

  -- a turn of the driver's
  pub turn_serves : (due : Option Writes) (acts : List Act) → IsOneTurn acts → AreEnded due acts → IsOwed m d due → Leads d (history acts) new → AllCalled k v (calls acts) w → ServesDue k m d (history acts) new w (due_behind due acts)
  turn_serves due (Halts fault ∷ []) one kept owed leads chain = none_due _ (plain k m d new v w _ (plain_one m desk.IsStopped (desk.StoppedBy (Some fault)) (tt, λ x. refl)) leads (none_called k m d new v w chain held))
  turn_serves due (Rests look ∷ []) one kept owed leads chain = none_due _ (plain k m d new v w _ (look_plain m look [] (All-nil (IsPlain m))) leads (none_called k m d new v w chain held))
  turn_serves due (Takes look keys ∷ []) one kept owed leads chain = none_due _ (plain k m d new v w _ (look_plain m look ((desk.TakeBatch, desk.Batch keys) ∷ []) (plain_one m desk.TakeBatch (desk.Batch keys) (tt, λ x. refl))) leads (none_called k m d new v w chain held))
  turn_serves due (Delivers batch ∷ []) one kept owed leads (mid, called, same) = none_due _ (plain k m d new v w _ (plain_one m (desk.Deliver batch.keys batch.values) desk.Done (fed k v mid batch.keys batch.values m called held, λ x. refl)) leads (subst (λ (x : V). HoldsMap k x m) (sym same) (still_holds k v mid (Fetch batch.keys) (Values batch.values) m called held (λ u. refl))))
  turn_serves due (DeliverFails keys fault ∷ []) one kept owed leads (mid, called, same) = none_due _ (plain k m d new v w _ (plain_one m (desk.Stop fault) desk.Done (tt, λ x. refl)) leads (subst (λ (x : V). HoldsMap k x m) (sym same) (still_holds k v mid (Fetch keys) (RefusedBy fault) m called held (λ u. refl))))
  turn_serves due (FetchFails look batches keys fault ∷ []) one kept owed leads chain = none_due _ (batch_fails look batches keys fault leads chain)
  turn_serves due (Unprinted ∷ []) one kept owed leads chain = none_due _ (plain k m d new v w _ (plain_one m (desk.Stop SinkFault) desk.Done (tt, λ x. refl)) leads (none_called k m d new v w chain held))
  turn_serves due (Unwatched ∷ []) one kept owed leads chain = none_due _ (plain k m d new v w _ (plain_one m (desk.Stop SinkFault) desk.Done (tt, λ x. refl)) leads (none_called k m d new v w chain held))
  turn_serves due (RestUnwatched look batches ∷ []) one kept owed leads chain = none_due _ (rest_unwatched look batches leads chain)
  turn_serves due (Closes look batches writes ∷ []) one kept owed leads chain = closes look batches writes leads chain
  turn_serves due (Publishes ended left told ∷ []) one kept owed leads chain = none_due _ (publishes ended left told (subst (IsOwed m d) kept.0 owed) leads chain)
  turn_serves due (Refuses asked refused ∷ []) one kept owed leads chain = none_due _ (plain k m d new v w _ (stop_plain m refused) leads (refused_end k m d new v w asked refused chain held))
  turn_serves due _ one kept owed leads chain = absurd one
