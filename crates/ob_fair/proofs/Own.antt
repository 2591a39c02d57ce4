-- Whether a call is refused by share hangs on what its own client named.
use Rattle.std.proofs.Common.{◌≡◌, ℕ, Bool, true, false, cond, not, ◌&&◌, ◌||◌, ◌==◌, if◌then◌else◌, List, [], ◌∷◌, ◌++◌, map, length, Option, None, Some, option_map, unwrap_or, is_some, refl, sym, ap, ap₂, ◌∙◌, subst, inl, inr, eqb-true, eq-eqb, nat_cmp}
use Rattle.std.specs.Option.{option_or}
use Rattle.std.specs.List.{cons_option}
use Rattle.std.proofs.lemmas.List.{length-map}
use Rattle.std.proofs.lemmas.List.Elements.{filter-append}
use Rattle.std.proofs.lemmas.Option.{none-some, same_Some}
use Rattle.ob_base.specs.declared.fault.Fault.{Fault}
use Rattle.ob_serial.specs.Serial.{Map}
use Rattle.ob_serial.specs.declared.records.Why.{Why}
use Rattle.ob_serial.specs.declared.records.Why.TheVariants.{ShareReads, ShareWrites}
use Rattle.ob_serial.specs.declared.records.Outcome.TheVariants.{Aborted as AbortedBy}
use Rattle.ob_order.specs.Order.{read_reply, write_reply}
use Rattle.ob_order.specs.declared.answers.Read.{Read}
use Rattle.ob_order.specs.declared.answers.Read.TheVariants.{Value as Found, Queued, Full as ReadsAreFull}
use Rattle.ob_order.specs.declared.answers.Wrote.{Wrote}
use Rattle.ob_order.specs.declared.answers.Wrote.TheVariants.{Yes, Conflict as Conflicts, Full as WritesAreFull}
use Rattle.ob_shares.specs.declared.shares.Shares.{Shares}
use Rattle.ob_shares.specs.declared.named.Named.{Named}
use Rattle.ob_shares.specs.Shares.{has_named, count_named, past, with_name}
use Rattle.ob_desk.specs.declared.calls.Txn.{Txn}
use Rattle.ob_desk.specs.Causes.{read_as, written_as}
use Rattle.ob_desk.specs.Desk.{Part, DeskState, Call, Begin, GetKey, Poll, Write, Commit, Abort, Settled, Looks, SignOff, Stop, Unsure, IsStopped, TakeBatch, Deliver, Close, Publish}
use Rattle.ob_desk.specs.Desk.{Reply, Begun, Refused, Value, Waits, Aborted, Done, IsSettled, Seen, StoppedBy, Batch, Writes, Published, DeskStep, Run, map_next, new_desk, outcome_at, aborted_why, is_memory, stop_part, stop_closed, stopped_by, read_past, write_past, reading, writing}
use Rattle.ob_desk.proofs.Answered.{replies_are_exact}
use Rattle.ob_fair.specs.Fair.{Access, Reads, Changes, access_in, accesses_after, accesses, IsOnLive, AreOnLive, History, is_past, SharesAreOwn, NoneIsKept}
use Rattle.ob_fair.proofs.Lists.{has}
use Rattle.ob_fair.proofs.Names.{is_of, names_of, count_is}

-- ---- one client's keys

-- the keys that a client named
abbrev keys_of : ℕ → List Named → List ℕ
keys_of c names = map (λ (n : Named). n.key) (names_of c names)

-- the share that one with these keys goes past by naming k, where it does
abbrev own_past : Option ℕ → List ℕ → ℕ → Option ℕ
own_past None keys k = None
own_past (Some most) keys k = if not (has k keys) && (length keys == most) then Some most else None

-- its keys, once it has named k
abbrev own_next : Option ℕ → List ℕ → ℕ → List ℕ
own_next None keys k = keys
own_next (Some most) keys k = if has k keys then keys else (if length keys == most then keys else keys ++ k ∷ [])

-- its keys, once it has named these, the last first
abbrev own_keys : Option ℕ → List ℕ → List ℕ
own_keys share [] = []
own_keys share (k ∷ ks) = own_next share (own_keys share ks) k

-- the keys that were read, and those that were changed
abbrev read_in : List Access → List ℕ
read_in [] = []
read_in (Reads k ∷ more) = k ∷ read_in more
read_in (Changes k ∷ more) = read_in more

abbrev changed_in : List Access → List ℕ
changed_in [] = []
changed_in (Reads k ∷ more) = changed_in more
changed_in (Changes k ∷ more) = k ∷ changed_in more

has_is : (names : List Named) (c k : ℕ) → has_named names c k ≡ has k (keys_of c names)
has_is [] c k = refl
has_is (n ∷ ns) c k = step (n.client == c) (has_is ns c k)
  where
    step : (b : Bool) → has_named ns c k ≡ has k (keys_of c ns) → ((b && (n.key == k)) || has_named ns c k) ≡ has k (map (λ (x : Named). x.key) (cond b (n ∷ names_of c ns) (names_of c ns)))
    step true e = ap (λ b. (n.key == k) || b) e
    step false e = e

long_is : (names : List Named) (c : ℕ) → count_named names c ≡ length (keys_of c names)
long_is names c = count_is names c ∙ sym (length-map (names_of c names) (λ (n : Named). n.key))

past_is : (share : Option ℕ) (names : List Named) (c k : ℕ) → past share names c k ≡ own_past share (keys_of c names) k
past_is None names c k = refl
past_is (Some most) names c k = ap₂ (λ (a : Bool) (n : ℕ). if not a && (n == most) then Some most else None) (has_is names c k) (long_is names c)

keys_push : (names : List Named) (c d k : ℕ) → keys_of d (names ++ record { client = c; key = k } ∷ []) ≡ keys_of d names ++ cond (c == d) (k ∷ []) []
keys_push names c d k = ap (λ (ns : List Named). map (λ (n : Named). n.key) ns) (filter-append (is_of d) names (record { client = c; key = k } ∷ [])) ∙ (joined (names_of d names) _ ∙ ap (λ ks. keys_of d names ++ ks) (one (c == d)))
  where
    joined : (xs ys : List Named) → map (λ (n : Named). n.key) (xs ++ ys) ≡ map (λ (n : Named). n.key) xs ++ map (λ (n : Named). n.key) ys
    joined [] ys = refl
    joined (x ∷ xs) ys = ap (λ ks. x.key ∷ ks) (joined xs ys)

    one : (b : Bool) → map (λ (n : Named). n.key) (cond b (record { client = c; key = k } ∷ []) []) ≡ cond b (k ∷ []) []
    one true = refl
    one false = refl

append_none : {A : Type 0} (xs : List A) → xs ++ [] ≡ xs
append_none [] = refl
append_none (x ∷ xs) = ap (λ ys. x ∷ ys) (append_none xs)

-- another's name is none of it
other_named : (share : Option ℕ) (names : List Named) (c d k : ℕ) → (c == d) ≡ false → keys_of d (with_name share names c k) ≡ keys_of d names
other_named None names c d k other = refl
other_named (Some most) names c d k other = step (has_named names c k)
  where
    step : (b : Bool) → keys_of d (if b then names else names ++ record { client = c; key = k } ∷ []) ≡ keys_of d names
    step true = refl
    step false = keys_push names c d k ∙ (ap (λ b. keys_of d names ++ cond b (k ∷ []) []) other ∙ append_none (keys_of d names))

-- its own, where it keeps to its share
own_named : (share : Option ℕ) (names : List Named) (c k : ℕ) → (c == c) ≡ true → past share names c k ≡ None → keys_of c (with_name share names c k) ≡ own_next share (keys_of c names) k
own_named None names c k same within = refl
own_named (Some most) names c k same within = step (has_named names c k) refl
  where
    by_length : (b : Bool) → (length (keys_of c names) == most) ≡ b → has k (keys_of c names) ≡ false → keys_of c names ++ k ∷ [] ≡ (if b then keys_of c names else keys_of c names ++ k ∷ [])
    by_length true is none = absurd (none-some most (sym (sym (past_is (Some most) names c k) ∙ within) ∙ ap₂ (λ (a b : Bool). if not a && b then Some most else None) none is))
    by_length false is none = refl

    step : (b : Bool) → has_named names c k ≡ b → keys_of c (if b then names else names ++ record { client = c; key = k } ∷ []) ≡ own_next (Some most) (keys_of c names) k
    step true is = sym (ap (λ b. if b then keys_of c names else (if length (keys_of c names) == most then keys_of c names else keys_of c names ++ k ∷ [])) (sym (has_is names c k) ∙ is))
    step false is =
        let none = sym (has_is names c k) ∙ is in
        keys_push names c c k ∙ (ap (λ b. keys_of c names ++ cond b (k ∷ []) []) same
        ∙ (by_length (length (keys_of c names) == most) refl none
        ∙ sym (ap (λ b. if b then keys_of c names else (if length (keys_of c names) == most then keys_of c names else keys_of c names ++ k ∷ [])) none)))

-- where it doesn't, its keys stay
own_refused : (share : Option ℕ) (names : List Named) (c k keys : ℕ) → past share names c k ≡ Some keys → keys_of c names ≡ own_next share (keys_of c names) k
own_refused None names c k keys passes = refl
own_refused (Some most) names c k keys passes = step (has k (keys_of c names)) (length (keys_of c names) == most) (sym (past_is (Some most) names c k) ∙ passes)
  where
    step : (a b : Bool) → (if not a && b then Some most else None) ≡ Some keys → keys_of c names ≡ (if a then keys_of c names else (if b then keys_of c names else keys_of c names ++ k ∷ []))
    step true b e = refl
    step false true e = refl
    step false false e = absurd (none-some keys e)

-- ---- a run

-- in the epoch of this number, the client's keys are those of what it named
record Own (shares : Shares) (client epoch : ℕ) (named : List Access) (d : DeskState) : Type 0 where
  pub shares_are : d.setup.shares ≡ shares
  pub reads : d.running.epoch ≡ epoch → keys_of client d.running.uses.reads ≡ own_keys shares.reads (read_in named)
  pub writes : d.running.epoch ≡ epoch → keys_of client d.running.uses.writes ≡ own_keys shares.writes (changed_in named)

module _ (shares : Shares) (client epoch : ℕ) where
  stays : (named : List Access) (d new : DeskState) → new ≡ d → Own shares client epoch named d → Own shares client epoch named new
  stays named d new e h = subst (Own shares client epoch named) (sym e) h

  -- a running part with the same uses and number
  in_running : (named : List Access) (d new : DeskState) (part : Part) → new ≡ record d { running = part } → part.uses ≡ d.running.uses → part.epoch ≡ d.running.epoch → Own shares client epoch named d → Own shares client epoch named new
  in_running named d new part e uses number h = subst (Own shares client epoch named) (sym e) (record {
    shares_are = h.shares_are;
    reads = λ at. ap (λ u. keys_of client u.reads) uses ∙ h.reads (sym number ∙ at);
    writes = λ at. ap (λ u. keys_of client u.writes) uses ∙ h.writes (sym number ∙ at);
  })

  -- a get that keeps to its share
  read : (named : List Access) (d : DeskState) (x : Txn) (k : ℕ) → read_past d x k ≡ None → (b : Bool) → (x.client == client) ≡ b → Own shares client epoch named d
      → Own shares client epoch (cons_option (if b then Some (Reads k) else None) named) (reading d x k)
  read named d x k within true same h = record {
    shares_are = h.shares_are;
    reads = λ at. subst (λ c. keys_of c (with_name d.setup.shares.reads d.running.uses.reads x.client k) ≡ own_next d.setup.shares.reads (keys_of c d.running.uses.reads) k) is (own_named d.setup.shares.reads d.running.uses.reads x.client k (eq-eqb x.client x.client refl) within)
        ∙ ap₂ (λ (s : Shares) (ks : List ℕ). own_next s.reads ks k) h.shares_are (h.reads at);
    writes = h.writes;
  }
    where
      is : x.client ≡ client
      is = eqb-true x.client client same
  read named d x k within false other h = record {
    shares_are = h.shares_are;
    reads = λ at. other_named d.setup.shares.reads d.running.uses.reads x.client client k other ∙ h.reads at;
    writes = h.writes;
  }

  -- a put or del that keeps to its share
  changed : (named : List Access) (d : DeskState) (x : Txn) (k : ℕ) → write_past d x k ≡ None → (b : Bool) → (x.client == client) ≡ b → Own shares client epoch named d
      → Own shares client epoch (cons_option (if b then Some (Changes k) else None) named) (writing d x k)
  changed named d x k within true same h = record {
    shares_are = h.shares_are;
    reads = h.reads;
    writes = λ at. subst (λ c. keys_of c (with_name d.setup.shares.writes d.running.uses.writes x.client k) ≡ own_next d.setup.shares.writes (keys_of c d.running.uses.writes) k) is (own_named d.setup.shares.writes d.running.uses.writes x.client k (eq-eqb x.client x.client refl) within)
        ∙ ap₂ (λ (s : Shares) (ks : List ℕ). own_next s.writes ks k) h.shares_are (h.writes at);
  }
    where
      is : x.client ≡ client
      is = eqb-true x.client client same
  changed named d x k within false other h = record {
    shares_are = h.shares_are;
    reads = h.reads;
    writes = λ at. other_named d.setup.shares.writes d.running.uses.writes x.client client k other ∙ h.writes at;
  }

  -- those that are refused by share
  read_refused : (named : List Access) (d : DeskState) (x : Txn) (k keys : ℕ) → read_past d x k ≡ Some keys → (b : Bool) → (x.client == client) ≡ b → Own shares client epoch named d
      → Own shares client epoch (cons_option (if b then Some (Reads k) else None) named) d
  read_refused named d x k keys passes true same h = record {
    shares_are = h.shares_are;
    reads = λ at. own_refused d.setup.shares.reads d.running.uses.reads client k keys (subst (λ c. past d.setup.shares.reads d.running.uses.reads c k ≡ Some keys) (eqb-true x.client client same) passes)
        ∙ ap₂ (λ (s : Shares) (ks : List ℕ). own_next s.reads ks k) h.shares_are (h.reads at);
    writes = h.writes;
  }
  read_refused named d x k keys passes false other h = h

  change_refused : (named : List Access) (d : DeskState) (x : Txn) (k keys : ℕ) → write_past d x k ≡ Some keys → (b : Bool) → (x.client == client) ≡ b → Own shares client epoch named d
      → Own shares client epoch (cons_option (if b then Some (Changes k) else None) named) d
  change_refused named d x k keys passes true same h = record {
    shares_are = h.shares_are;
    reads = h.reads;
    writes = λ at. own_refused d.setup.shares.writes d.running.uses.writes client k keys (subst (λ c. past d.setup.shares.writes d.running.uses.writes c k ≡ Some keys) (eqb-true x.client client same) passes)
        ∙ ap₂ (λ (s : Shares) (ks : List ℕ). own_next s.writes ks k) h.shares_are (h.writes at);
  }
  change_refused named d x k keys passes false other h = h

  -- a call on a transaction that was aborted is another's, or of another epoch
  was_aborted : (named : List Access) (a : Access) (d : DeskState) (x : Txn) (why : Why ℕ) → outcome_at d x ≡ Some (AbortedBy why) → (b : Bool) → ((b ≡ true) → d.running.epoch ≡ epoch → aborted_why (outcome_at d x) ≡ None)
      → Own shares client epoch named d → Own shares client epoch (cons_option (if b then Some a else None) named) d
  was_aborted named a d x why earlier true live h = record {
    shares_are = h.shares_are;
    reads = λ at. absurd (none-some why (sym (live refl at) ∙ ap aborted_why earlier));
    writes = λ at. absurd (none-some why (sym (live refl at) ∙ ap aborted_why earlier));
  }
  was_aborted named a d x why earlier false live h = h

  halted : (named : List Access) (d : DeskState) (f : Fault) → Own shares client epoch named d → Own shares client epoch named (stopped_by f d)
  halted named d f h = step (is_memory f)
    where
      step : (b : Bool) → Own shares client epoch named (if b then record d { stop = option_or d.stop (Some f); running = stop_part f d.running } else stop_closed f (record d { stop = option_or d.stop (Some f); running = stop_part f d.running }))
      step true = record { shares_are = h.shares_are; reads = h.reads; writes = h.writes }
      step false = record { shares_are = h.shares_are; reads = h.reads; writes = h.writes }

  own_step : (named : List Access) (d : DeskState) (call : Call) (reply : Reply) (new : DeskState) → DeskStep d call reply new → ((a : Access) → access_in client call ≡ Some a → d.running.epoch ≡ epoch → IsOnLive d call)
      → Own shares client epoch named d → Own shares client epoch (accesses_after client named call) new
  own_step named d (Begin c) (Begun x) new step live h = subst (Own shares client epoch named) (sym step.state) (record { shares_are = h.shares_are; reads = h.reads; writes = h.writes })
  own_step named d (Begin c) (Refused f) new step live h = stays named d new step.same h
  own_step named d (GetKey x k) (Value value) new step live h = in_running _ (reading d x k) new _ step.state refl refl (read named d x k step.within (x.client == client) refl h)
  own_step named d (GetKey x k) Waits new step live h = in_running _ (reading d x k) new _ step.state refl refl (read named d x k step.within (x.client == client) refl h)
  own_step named d (GetKey x k) (Aborted why) new (inl step) live h = stays _ d new step.same (was_aborted named (Reads k) d x why step.earlier (x.client == client) (λ same at. live (Reads k) (ap (λ b. if b then Some (Reads k) else None) same) at x refl) h)
  own_step named d (GetKey x k) (Aborted why) new (inr (inl step)) live h = in_running _ (reading d x k) new _ step.state refl refl (read named d x k step.within (x.client == client) refl h)
  own_step named d (GetKey x k) (Aborted why) new (inr (inr step)) live h = in_running _ d new _ step.state refl refl (read_refused named d x k step.keys step.passes (x.client == client) refl h)
  own_step named d (Poll x) (Value value) new step live h = in_running named d new _ step.state refl refl h
  own_step named d (Poll x) Waits new step live h = stays named d new step.same h
  own_step named d (Poll x) (Aborted why) new step live h = stays named d new step.same h
  own_step named d (Write x k value) Done new step live h = in_running _ (writing d x k) new _ step.state refl refl (changed named d x k step.within (x.client == client) refl h)
  own_step named d (Write x k value) (Aborted why) new (inl step) live h = stays _ d new step.same (was_aborted named (Changes k) d x why step.earlier (x.client == client) (λ same at. live (Changes k) (ap (λ b. if b then Some (Changes k) else None) same) at x refl) h)
  own_step named d (Write x k value) (Aborted why) new (inr (inl step)) live h = in_running _ (writing d x k) new _ step.state refl refl (changed named d x k step.within (x.client == client) refl h)
  own_step named d (Write x k value) (Aborted why) new (inr (inr step)) live h = in_running _ d new _ step.state refl refl (change_refused named d x k step.keys step.passes (x.client == client) refl h)
  own_step named d (Commit x) Done new step live h = in_running named d new _ step.state refl refl h
  own_step named d (Commit x) (Aborted why) new step live h = stays named d new step.same h
  own_step named d (Abort x) (Aborted why) new (inl step) live h = stays named d new step.same h
  own_step named d (Abort x) (Aborted why) new (inr step) live h = in_running named d new _ step.state refl refl h
  own_step named d (Settled x) (IsSettled outcome) new step live h = stays named d new step.1 h
  own_step named d Looks (Seen look) new step live h = stays named d new step.1 h
  own_step named d (SignOff c) Done new step live h = subst (Own shares client epoch named) (sym step.state) (record { shares_are = h.shares_are; reads = h.reads; writes = h.writes })
  own_step named d (Stop f) Done new step live h = subst (Own shares client epoch named) (sym step.state) (halted named d f h)
  own_step named d (Unsure f) Done new step live h = subst (Own shares client epoch named) (sym step.state) (record { shares_are = h.shares_are; reads = h.reads; writes = h.writes })
  own_step named d IsStopped (StoppedBy fault) new step live h = stays named d new step.1 h
  own_step named d TakeBatch (Batch keys) new step live h = in_running named d new _ step.state refl refl h
  own_step named d (Deliver keys values) Done new step live h = in_running named d new _ step.state refl refl h
  own_step named d Close (Writes writes) new step live h = subst (Own shares client epoch []) (sym step.state) (record { shares_are = h.shares_are; reads = λ at. refl; writes = λ at. refl })
  own_step named d (Publish number left) (Published told) new step live h = subst (Own shares client epoch named) (sym step.state) (record { shares_are = h.shares_are; reads = h.reads; writes = h.writes })
  own_step named d _ _ new step live h = absurd step

  own_run : (named : List Access) (m : Map nat_cmp) (d : DeskState) (steps : List (Call × Reply)) (last : Map nat_cmp) (new : DeskState) (run : Run m d steps last new) → AreOnLive client epoch m d steps last new run
      → Own shares client epoch named d → Own shares client epoch (accesses client named steps) new
  own_run named m d [] last new run live h = subst (Own shares client epoch named) (sym run.1) h
  own_run named m d (step ∷ steps) last new run live h = own_run (accesses_after client named step.0) (map_next m d step.0) run.0 steps last new run.4 live.1 (own_step named d step.0 step.1 run.0 run.2 live.0 h)

own_history : (shares : Shares) (client : ℕ) (named : List Access) (d : DeskState) → History shares client named d → Own shares client d.running.epoch named d
own_history shares client named d h = subst (λ (named : List Access). Own shares client d.running.epoch named d) h.names
    (own_run shares client d.running.epoch [] h.first (new_desk h.setup h.epoch h.left h.clients) h.steps h.last d h.run h.live (record { shares_are = h.shares_are; reads = λ at. refl; writes = λ at. refl }))

-- ---- replies

-- whether one that named these keys is refused by share
abbrev own_is_past : Shares → List Access → Access → Bool
own_is_past shares named (Reads k) = is_some (own_past shares.reads (own_keys shares.reads (read_in named)) k)
own_is_past shares named (Changes k) = is_some (own_past shares.writes (own_keys shares.writes (changed_in named)) k)

read_told : (o : Option ℕ) (r : Read) → is_past (unwrap_or (option_map (λ keys. Aborted (ShareReads keys)) o) (read_as r)) ≡ is_some o
read_told (Some keys) r = refl
read_told None (Found value source) = refl
read_told None Queued = refl
read_told None (ReadsAreFull queued left) = refl

write_told : (o : Option ℕ) (w : Wrote) → is_past (unwrap_or (option_map (λ keys. Aborted (ShareWrites keys)) o) (written_as w)) ≡ is_some o
write_told (Some keys) w = refl
write_told None Yes = refl
write_told None (Conflicts key reader) = refl
write_told None (WritesAreFull keys) = refl

own_access : (client : ℕ) (x : Txn) (a b : Access) → (if x.client == client then Some a else None) ≡ Some b → (x.client ≡ client) × (a ≡ b)
own_access client x a b e = step (x.client == client) refl e
  where
    step : (c : Bool) → (x.client == client) ≡ c → (if c then Some a else None) ≡ Some b → (x.client ≡ client) × (a ≡ b)
    step true is q = (eqb-true x.client client is, same_Some a b q)
    step false is q = absurd (none-some b q)

told : (shares : Shares) (client : ℕ) (named : List Access) (d : DeskState) → Own shares client d.running.epoch named d → (a : Access) (call : Call) (reply : Reply) (new : DeskState) → access_in client call ≡ Some a → IsOnLive d call → DeskStep d call reply new
    → is_past reply ≡ own_is_past shares named a
told shares client named d h a (GetKey x k) reply new is live step =
    let two = own_access client x (Reads k) a is in
    ap is_past (replies_are_exact d (GetKey x k) x reply new refl (live x refl) step)
    ∙ (read_told (read_past d x k) (read_reply d.setup.params d.running.order x.ticket k)
    ∙ (ap is_some (past_is d.setup.shares.reads d.running.uses.reads x.client k)
    ∙ (ap (λ c. is_some (own_past d.setup.shares.reads (keys_of c d.running.uses.reads) k)) two.0
    ∙ (ap₂ (λ (s : Shares) (ks : List ℕ). is_some (own_past s.reads ks k)) h.shares_are (h.reads refl)
    ∙ ap (own_is_past shares named) two.1))))
told shares client named d h a (Write x k value) reply new is live step =
    let two = own_access client x (Changes k) a is in
    ap is_past (replies_are_exact d (Write x k value) x reply new refl (live x refl) step)
    ∙ (write_told (write_past d x k) (write_reply d.setup.params d.running.order x.ticket k)
    ∙ (ap is_some (past_is d.setup.shares.writes d.running.uses.writes x.client k)
    ∙ (ap (λ c. is_some (own_past d.setup.shares.writes (keys_of c d.running.uses.writes) k)) two.0
    ∙ (ap₂ (λ (s : Shares) (ks : List ℕ). is_some (own_past s.writes ks k)) h.shares_are (h.writes refl)
    ∙ ap (own_is_past shares named) two.1))))
told shares client named d h a (Begin c) reply new is live step = absurd (none-some a is)
told shares client named d h a (Poll x) reply new is live step = absurd (none-some a is)
told shares client named d h a (Commit x) reply new is live step = absurd (none-some a is)
told shares client named d h a (Abort x) reply new is live step = absurd (none-some a is)
told shares client named d h a (Settled x) reply new is live step = absurd (none-some a is)
told shares client named d h a Looks reply new is live step = absurd (none-some a is)
told shares client named d h a (SignOff c) reply new is live step = absurd (none-some a is)
told shares client named d h a (Stop f) reply new is live step = absurd (none-some a is)
told shares client named d h a (Unsure f) reply new is live step = absurd (none-some a is)
told shares client named d h a IsStopped reply new is live step = absurd (none-some a is)
told shares client named d h a TakeBatch reply new is live step = absurd (none-some a is)
told shares client named d h a (Deliver keys values) reply new is live step = absurd (none-some a is)
told shares client named d h a Close reply new is live step = absurd (none-some a is)
told shares client named d h a (Publish number left) reply new is live step = absurd (none-some a is)

pub shares_are_own : SharesAreOwn
shares_are_own shares client named d e h g a call other reply answer new after is same live alive step stepped =
    told shares client named d (own_history shares client named d h) a call reply new is live step
    ∙ sym (told shares client named e (own_history shares client named e g) a other answer after same alive stepped)

-- ---- no shares

pub none_is_kept : NoneIsKept
none_is_kept d x k none = (
  ap (λ (s : Shares). past s.reads d.running.uses.reads x.client k) none,
  ap (λ (s : Shares). past s.writes d.running.uses.writes x.client k) none,
  ap (λ (s : Shares). let n : DeskState = record d { running = record d.running { uses = record d.running.uses { reads = with_name s.reads d.running.uses.reads x.client k } } } in n) none,
  ap (λ (s : Shares). let n : DeskState = record d { running = record d.running { uses = record d.running.uses { writes = with_name s.writes d.running.uses.writes x.client k } } } in n) none,
)
