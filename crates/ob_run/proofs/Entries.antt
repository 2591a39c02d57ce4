-- A whole history, entry by entry.
use Rattle.std.proofs.Common.{◌≡◌, ◌∙◌, ◌⊎◌, ℕ, zero, suc, ◌==◌, Bool, true, false, if◌then◌else◌, All, List, [], ◌∷◌, ◌++◌, slice_get, Option, Some, None, refl, sym, ap, ap₂, subst, inl, inr, append-nil, eq-eqb, eqb-true, nat_cmp}
use Rattle.std.proofs.lemmas.Bool.{false≢true}
use Rattle.std.proofs.lemmas.Option.{same_Some}
use Rattle.std.proofs.lemmas.List.Elements.{All-nil, All-cons, All-head, All-tail, All-append}
use Rattle.ob_serial.specs.Serial.{Map, EpochRecord, OneByOne, committed_of}
use Rattle.ob_serial.specs.Vaults.{VaultCall, VaultAnswer}
use Rattle.ob_serial.specs.VaultKinds.{Kind, AllCalled}
use Rattle.ob_desk.specs.Desk.{DeskState, Run, published}
use Rattle.ob_desk.specs.Beats.{BeatKind}
use Rattle.ob_desk.proofs.Runs.{desk_is_serial}
use Rattle.ob_session.specs.Steps.{Leads, IsOwn}
use Rattle.ob_session.proofs.Numbers.{numbers_run}
use Rattle.ob_turn.specs.declared.turn.Entry.{Entry}
use Rattle.ob_turn.specs.History.{Calls, entries_of, LeadsByTurns}
use Rattle.ob_hall.specs.Turns.{client_numbers, IsTurn}
use Rattle.ob_hall.specs.Passes.{Steps, IsNew, calls_in}
use Rattle.ob_hall.proofs.Histories.{noted_calls, calls_lead, history_leads}
use Rattle.ob_hall.proofs.Chaining.{calls_append}
use Rattle.ob_hall.proofs.Numbers.{setup_run}
use Rattle.ob_hall.proofs.Staying.{own_closed}
use Rattle.ob_conduct.specs.Acts.{Act, Says, history, calls, records, IsAllowed}
use Rattle.ob_conduct.specs.Records.{contents, HoldsMap}
use Rattle.ob_conduct.proofs.Moving.{run_join}
use Rattle.ob_conduct.proofs.Ready.{own_run}
use Rattle.ob_conduct.proofs.Writes.{left_by}
use Rattle.ob_conduct.proofs.Going.{history_append, calls_append as vault_append, records_append, own_tells}
use Rattle.ob_driver.specs.Turning.{IsOneTurn, AreActs}
use Rattle.ob_driver.specs.Drives.{AreThings}
use Rattle.ob_run.specs.Woven.{IsEntryOf, AreWoven, Woven}
use Rattle.ob_run.proofs.Chains.{called_split}
use Rattle.ob_run.proofs.MapServing.{Serves, Writes, due_behind, AreEnded, ended_split, things_ended, IsOwed, owed_stays, ServesDue, turn_serves}

-- ---- one entry

-- the calls of an entry, as a chain
one_entry : (e : Entry Steps) → calls_in (e ∷ []) ≡ noted_calls e.calls
one_entry e = append-nil (noted_calls e.calls)

entry_leads : (x : DeskState) (e : Entry Steps) (z : DeskState) → Calls IsTurn e.by x e.calls z → Leads x (calls_in (e ∷ [])) z
entry_leads x e z turn = subst (λ (s : Steps). Leads x s z) (sym (one_entry e)) (calls_lead e.by x e.calls z turn)

-- whose they are
pub record IsSaidBy (clients : List ℕ) (i : ℕ) (steps : Steps) : Type 0 where
  pub number : ℕ
  pub named : slice_get clients i ≡ Some number
  pub own : All (IsOwn number) steps

made_by : (clients : List ℕ) (i : ℕ) (x : DeskState) (cs : List Steps) (y : DeskState) → client_numbers x ≡ clients → Calls IsTurn (suc i) x cs y → (noted_calls cs ≡ []) ⊎ IsSaidBy clients i (noted_calls cs)
made_by clients i x [] y same turn = inl refl
made_by clients i x (c ∷ cs) y same (z, (led, by), rest) = inr (more (made_by clients i z cs y (numbers_run x c z led ∙ same) rest))
  where
    named : slice_get clients i ≡ Some by.0
    named = ap (λ (l : List ℕ). slice_get l i) (sym same) ∙ by.1

    more : (noted_calls cs ≡ []) ⊎ IsSaidBy clients i (noted_calls cs) → IsSaidBy clients i (c ++ noted_calls cs)
    more (inl none) = record { number = by.0; named = named; own = subst (λ (s : Steps). All (IsOwn by.0) (c ++ s)) (sym none) (subst (All (IsOwn by.0)) (sym (append-nil c)) by.2) }
    more (inr said) = record {
      number = by.0;
      named = named;
      own = All-append (IsOwn by.0) c (noted_calls cs) by.2 (subst (λ (n : ℕ). All (IsOwn n) (noted_calls cs)) (same_Some said.number by.0 (sym said.named ∙ named)) said.own);
    }

-- there is no such client, and nothing was called
abbrev pub IsNobodys : List ℕ → ℕ → Steps → Type 0
IsNobodys clients i steps = (slice_get clients i ≡ None) × (steps ≡ [])

at_place : (clients : List ℕ) (i : ℕ) (steps : Steps) (found : Option ℕ) → slice_get clients i ≡ found → (steps ≡ []) ⊎ IsSaidBy clients i steps → IsSaidBy clients i steps ⊎ IsNobodys clients i steps
at_place clients i steps found at (inr said) = inl said
at_place clients i steps None at (inl none) = inr (at, none)
at_place clients i steps (Some number) at (inl none) = inl (record { number = number; named = at; own = subst (All (IsOwn number)) (sym none) (All-nil (IsOwn number)) })

turn_said : (clients : List ℕ) (i : ℕ) (x : DeskState) (cs : List Steps) (y : DeskState) → client_numbers x ≡ clients → Calls IsTurn (suc i) x cs y → IsSaidBy clients i (noted_calls cs) ⊎ IsNobodys clients i (noted_calls cs)
turn_said clients i x cs y same turn = at_place clients i (noted_calls cs) (slice_get clients i) refl (made_by clients i x cs y same turn)

-- ---- the acts of a history

-- acts of these entries, where the driver's are given
pub record Acts (clients : List ℕ) (beat : BeatKind) (entries : List (Entry Steps)) (driven : List Act) : Type 0 where
  pub acts : List Act
  pub are : AreWoven clients entries driven acts
  pub allowed : All (IsAllowed beat) acts
  pub history_is : history acts ≡ calls_in entries
  pub calls_are : calls acts ≡ calls driven
  pub records_are : records acts ≡ records driven

front_all : (P : Act → Type 0) (xs ys : List Act) → All P (xs ++ ys) → All P xs
front_all P [] ys all = All-nil P
front_all P (x ∷ xs) ys all = All-cons P x xs (All-head P x (xs ++ ys) all) (front_all P xs ys (All-tail P x (xs ++ ys) all))

back_all : (P : Act → Type 0) (xs ys : List Act) → All P (xs ++ ys) → All P ys
back_all P [] ys all = all
back_all P (x ∷ xs) ys all = back_all P xs ys (All-tail P x (xs ++ ys) all)

module _ (clients : List ℕ) (beat : BeatKind) where
  -- an entry of the driver's before others
  driver_then : (e : Entry Steps) (entries : List (Entry Steps)) (these more driven : List Act) → e.by ≡ zero → driven ≡ these ++ more → IsOneTurn these → calls_in (e ∷ []) ≡ history these → All (IsAllowed beat) driven → Acts clients beat entries more → Acts clients beat (e ∷ entries) driven
  driver_then e entries these more driven by is one calls_are allowed a = record {
    acts = these ++ a.acts;
    are = (these, more, these, a.acts, is, refl, subst (λ (n : ℕ). IsEntryOf clients n (calls_in (e ∷ [])) these these) (sym by) (one, calls_are, refl), a.are);
    allowed = All-append (IsAllowed beat) these a.acts (front_all (IsAllowed beat) these more (subst (All (IsAllowed beat)) is allowed)) a.allowed;
    history_is = history_append these a.acts ∙ (ap₂ (λ (s t : Steps). s ++ t) (sym calls_are) a.history_is ∙ sym (calls_append (e ∷ []) entries));
    calls_are = vault_append these a.acts ∙ (ap (λ (s : List (VaultCall × VaultAnswer)). calls these ++ s) a.calls_are ∙ (sym (vault_append these more) ∙ ap calls (sym is)));
    records_are = records_append these a.acts ∙ (ap (λ (rs : List (EpochRecord ℕ)). records these ++ rs) a.records_are ∙ (sym (records_append these more) ∙ ap records (sym is)));
  }

  -- an entry of a client's
  client_then : (e : Entry Steps) (entries : List (Entry Steps)) (driven : List Act) (i : ℕ) (x z : DeskState) → e.by ≡ suc i → Leads x (calls_in (e ∷ [])) z → IsSaidBy clients i (calls_in (e ∷ [])) → Acts clients beat entries driven → Acts clients beat (e ∷ entries) driven
  client_then e entries driven i x z by leads said a = record {
    acts = Says said.number (calls_in (e ∷ [])) ∷ a.acts;
    are = ([], driven, Says said.number (calls_in (e ∷ [])) ∷ [], a.acts, refl, refl, subst (λ (n : ℕ). IsEntryOf clients n (calls_in (e ∷ [])) [] (Says said.number (calls_in (e ∷ [])) ∷ [])) (sym by) (refl, inl (said.number, said.named, refl)), a.are);
    allowed = All-cons (IsAllowed beat) (Says said.number (calls_in (e ∷ []))) a.acts said.own a.allowed;
    history_is = ap (λ (s : Steps). calls_in (e ∷ []) ++ s) a.history_is ∙ sym (calls_append (e ∷ []) entries);
    calls_are = a.calls_are;
    records_are = records_append (Says said.number (calls_in (e ∷ [])) ∷ []) a.acts ∙ (ap (λ (rs : List (EpochRecord ℕ)). rs ++ records a.acts) (ap published (append-nil (calls_in (e ∷ []))) ∙ own_tells said.number (calls_in (e ∷ [])) x z said.own leads) ∙ a.records_are);
  }

  -- an entry of nobody's
  none_then : (e : Entry Steps) (entries : List (Entry Steps)) (driven : List Act) (i : ℕ) → e.by ≡ suc i → IsNobodys clients i (calls_in (e ∷ [])) → Acts clients beat entries driven → Acts clients beat (e ∷ entries) driven
  none_then e entries driven i by (nobody, none) a = record {
    acts = a.acts;
    are = ([], driven, [], a.acts, refl, refl, subst (λ (n : ℕ). IsEntryOf clients n (calls_in (e ∷ [])) [] []) (sym by) (refl, inr (nobody, none, refl)), a.are);
    allowed = a.allowed;
    history_is = a.history_is ∙ (sym (ap (λ (s : Steps). s ++ calls_in entries) none) ∙ sym (calls_append (e ∷ []) entries));
    calls_are = a.calls_are;
    records_are = a.records_are;
  }

  client_entry : (e : Entry Steps) (entries : List (Entry Steps)) (driven : List Act) (i : ℕ) (x z : DeskState) → e.by ≡ suc i → Leads x (calls_in (e ∷ [])) z → IsSaidBy clients i (noted_calls e.calls) ⊎ IsNobodys clients i (noted_calls e.calls) → Acts clients
      beat entries driven → Acts clients beat (e ∷ entries) driven
  client_entry e entries driven i x z by leads (inr none) a = none_then e entries driven i by (none.0, one_entry e ∙ none.1) a
  client_entry e entries driven i x z by leads (inl said) a = client_then e entries driven i x z by leads (subst (IsSaidBy clients i) (sym (one_entry e)) said) a

  entry_then : (e : Entry Steps) (entries : List (Entry Steps)) (x z : DeskState) (by : ℕ) → e.by ≡ by → (b : Bool) → (0 == e.by) ≡ b → client_numbers x ≡ clients → Calls IsTurn e.by x e.calls z → (driven : List Act) → AreActs
      (if b then e ∷ entries_of 0 entries else entries_of 0 entries) driven → All (IsAllowed beat) driven
      → ((more : List Act) → AreActs (entries_of 0 entries) more → All (IsAllowed beat) more → Acts clients beat entries more) → Acts clients beat (e ∷ entries) driven
  entry_then e entries x z by is true same numbers turn driven (these, more, are, one, calls_are, behind) allowed on =
      driver_then e entries these more driven (sym (eqb-true 0 e.by same)) are one calls_are allowed (on more behind (back_all (IsAllowed beat) these more (subst (All (IsAllowed beat)) are allowed)))
  entry_then e entries x z zero is false same numbers turn driven acts allowed on = absurd (false≢true (sym same ∙ eq-eqb 0 e.by (sym is)))
  entry_then e entries x z (suc i) is false same numbers turn driven acts allowed on =
      client_entry e entries driven i x z is (entry_leads x e z turn) (turn_said clients i x e.calls z numbers (subst (λ (n : ℕ). Calls IsTurn n x e.calls z) is turn)) (on driven acts allowed)

  pub weaves : (entries : List (Entry Steps)) (x y : DeskState) (driven : List Act) → client_numbers x ≡ clients → LeadsByTurns IsTurn x entries y → AreActs (entries_of 0 entries) driven → All (IsAllowed beat) driven → Acts clients beat entries driven
  weaves [] x y driven numbers leads none allowed = record { acts = []; are = (none, refl); allowed = All-nil (IsAllowed beat); history_is = refl; calls_are = ap calls (sym none); records_are = ap records (sym none) }
  weaves (e ∷ entries) x y driven numbers (z, turn, rest) acts allowed =
      entry_then e entries x z e.by refl (0 == e.by) refl numbers turn driven acts allowed (λ more are good. weaves entries z y more (numbers_run x (noted_calls e.calls) z (calls_lead e.by x e.calls z turn) ∙ numbers) rest are good)

-- ---- the run over the vault's map

module _ {V : Type 0} (k : Kind V) (clients : List ℕ) where
  then_serves : (m : Map nat_cmp) (x z y : DeskState) (these rest : List Act) (mid w : V) → (one : Serves k m x (history these) z mid) → Serves k one.next z (history rest) y w → Serves k m x (history (these ++ rest)) y w
  then_serves m x z y these rest mid w one more = record {
    next = more.next;
    run = subst (λ (s : Steps). Run m x s more.next y) (sym (history_append these rest)) (run_join m x (history these) one.next z (history rest) more.next y one.run more.run);
    holds = more.holds;
  }

  -- where the driver did nothing, what was due is due still
  none_did : (m : Map nat_cmp) (x z : DeskState) (w : V) (steps : Steps) (mine : List Act) (due : Option Writes) → mine ≡ [] → (s : Serves k m x steps z w) → IsOwed s.next z due → ServesDue k m x steps z w (due_behind due mine)
  none_did m x z w steps mine due none s owed = subst (λ (acts : List Act). ServesDue k m x steps z w (due_behind due acts)) (sym none) (record { serves = s; owed = owed })

  entry_serves : (e : Entry Steps) (x z : DeskState) (v w : V) (m : Map nat_cmp) (mine these : List Act) (due : Option Writes) (by : ℕ) → IsEntryOf clients by (calls_in (e ∷ [])) mine these → e.by ≡ by → client_numbers x ≡ clients → Calls IsTurn e.by x e.calls z
      → AreEnded due mine → IsOwed m x due → AllCalled k v (calls mine) w → HoldsMap k v m
      → ServesDue k m x (history these) z w (due_behind due mine)
  entry_serves e x z v w m mine these due zero (one, calls_are, same) is numbers turn ends owed chain held =
      subst (λ (acts : List Act). ServesDue k m x (history acts) z w (due_behind due mine)) (sym same)
      (turn_serves k m x z v w held due mine one ends owed (subst (λ (s : Steps). Leads x s z) calls_are (entry_leads x e z turn)) chain)
  entry_serves e x z v w m mine these due (suc i) (none, inr (nobody, quiet, same)) is numbers turn ends owed chain held =
      let still : w ≡ v = subst (λ (acts : List Act). AllCalled k v (calls acts) w) none chain in
      let stays : z ≡ x = subst (λ (s : Steps). Leads x s z) quiet (entry_leads x e z turn) in
      subst (λ (acts : List Act). ServesDue k m x (history acts) z w (due_behind due mine)) (sym same)
      (none_did m x z w [] mine due none (record { next = m; run = (refl, stays); holds = subst (λ (u : V). HoldsMap k u m) (sym still) held }) (subst (λ (y : DeskState). IsOwed m y due) (sym stays) owed))
  entry_serves e x z v w m mine these due (suc i) (none, inl (number, named, same)) is numbers turn ends owed chain held =
      let still : w ≡ v = subst (λ (acts : List Act). AllCalled k v (calls acts) w) none chain in
      let own : All (IsOwn number) (calls_in (e ∷ [])) = owns (turn_said clients i x e.calls z numbers (subst (λ (n : ℕ). Calls IsTurn n x e.calls z) is turn)) named in
      let leads : Leads x (calls_in (e ∷ [])) z = entry_leads x e z turn in
      subst (λ (acts : List Act). ServesDue k m x (history acts) z w (due_behind due mine)) (sym same)
      (none_did m x z w (history (Says number (calls_in (e ∷ [])) ∷ [])) mine due none
      (record {
        next = m;
        run = subst (λ (s : Steps). Run m x s m z) (sym (append-nil (calls_in (e ∷ [])))) (own_run m number x (calls_in (e ∷ [])) z own leads);
        holds = subst (λ (u : V). HoldsMap k u m) (sym still) held;
      })
      (owed_stays m x z due (own_closed number x (calls_in (e ∷ [])) z leads own) (setup_run x (calls_in (e ∷ [])) z leads) owed))
    where
      owns : IsSaidBy clients i (noted_calls e.calls) ⊎ IsNobodys clients i (noted_calls e.calls) → slice_get clients i ≡ Some number → All (IsOwn number) (calls_in (e ∷ []))
      owns (inr quiet) is = subst (All (IsOwn number)) (sym (one_entry e ∙ quiet.1)) (All-nil (IsOwn number))
      owns (inl said) is = subst (All (IsOwn number)) (sym (one_entry e)) (subst (λ (n : ℕ). All (IsOwn n) (noted_calls e.calls)) (same_Some said.number number (sym said.named ∙ is)) said.own)

  pub serves : (entries : List (Entry Steps)) (x y : DeskState) (v w : V) (m : Map nat_cmp) (driven acts : List Act) (due : Option Writes) → client_numbers x ≡ clients → LeadsByTurns IsTurn x entries y → AreWoven clients entries driven acts → AreEnded due driven → IsOwed m x due
      → AllCalled k v (calls driven) w → HoldsMap k v m → Serves k m x (history acts) y w
  serves [] x y v w m driven acts due numbers leads (none, quiet) ends owed chain held =
      let still : w ≡ v = subst (λ (xs : List Act). AllCalled k v (calls xs) w) none chain in
      subst (λ (xs : List Act). Serves k m x (history xs) y w) (sym quiet) (record { next = m; run = (refl, sym leads); holds = subst (λ (u : V). HoldsMap k u m) (sym still) held })
  serves (e ∷ entries) x y v w m driven acts due numbers (z, turn, rest) (mine, more, these, behind, driven_is, acts_are, entry, woven) ends owed chain held =
      let split = called_split k v (calls mine) (calls more) w (subst (λ (asked : List (VaultCall × VaultAnswer)). AllCalled k v asked w) (ap calls driven_is ∙ vault_append mine more) chain) in
      let (first, later) = ended_split due mine more (subst (AreEnded due) driven_is ends) in
      let one : ServesDue k m x (history these) z split.0 (due_behind due mine) = entry_serves e x z v split.0 m mine these due e.by entry refl numbers turn first owed split.1 held in
      subst (λ (xs : List Act). Serves k m x (history xs) y w) (sym acts_are)
      (then_serves m x z y these behind split.0 w one.serves
      (serves entries z y split.0 w one.serves.next more behind (due_behind due mine) (numbers_run x (noted_calls e.calls) z (calls_lead e.by x e.calls z turn) ∙ numbers) rest woven later one.owed split.2 one.serves.holds))

-- ---- the law

-- Of things that the driver does each publish follows a close, with its writes.
pub driven_ended : (driven : List Act) → AreThings driven → AreEnded None driven
driven_ended driven things = subst (AreEnded None) (sym things.acts_are) (things_ended things.things things.each)

pub histories_weave : {V : Type 0} (k : Kind V) (beat : BeatKind) (opened d : DeskState) (log : List (Entry Steps)) (old new : V) (driven : List Act) → IsNew opened → LeadsByTurns IsTurn opened log d → AreActs (entries_of 0 log) driven → AreThings driven
    → All (IsAllowed beat) driven → AllCalled k old (calls driven) new
    → Woven k beat opened d log old new driven
histories_weave {V} k beat opened d log old new driven fresh leads are things allowed chain = record {
  acts = a.acts;
  are = a.are;
  allowed = a.allowed;
  history_is = a.history_is;
  leads = subst (λ (s : Steps). Leads opened s d) (sym a.history_is) (history_leads opened log d leads);
  calls_are = a.calls_are;
  records_are = a.records_are;
  serial = λ m held.
      let s : Serves k m opened (history a.acts) d new = serves k (client_numbers opened) log opened d old new m driven a.acts None refl leads a.are (driven_ended driven things) tt chain held in
      let is : s.next ≡ contents m (records a.acts) = left_to m s.next s.run in
      (subst (λ (x : Map nat_cmp). Run m opened (history a.acts) x d) is s.run, subst (λ (x : Map nat_cmp). HoldsMap k new x) is s.holds);
  one_by_one = λ m held.
      let s : Serves k m opened (history a.acts) d new = serves k (client_numbers opened) log opened d old new m driven a.acts None refl leads a.are (driven_ended driven things) tt chain held in
      subst (OneByOne nat_cmp m (committed_of (records a.acts))) (left_to m s.next s.run) (ran m s.next s.run);
}
  where
    a : Acts (client_numbers opened) beat log driven
    a = weaves (client_numbers opened) beat log opened d driven refl leads are allowed

    ran : (m last : Map nat_cmp) → Run m opened (history a.acts) last d → OneByOne nat_cmp m (committed_of (published (history a.acts))) last
    ran m last run = desk_is_serial fresh.setup fresh.epoch fresh.left fresh.clients m last (history a.acts) d (subst (λ (x : DeskState). Run m x (history a.acts) last d) fresh.is run)

    left_to : (m last : Map nat_cmp) → Run m opened (history a.acts) last d → last ≡ contents m (records a.acts)
    left_to m last run = left_by m (committed_of (records a.acts)) last (ran m last run)
