-- What holds of a world at every place of a list of events.
use Rattle.std.proofs.Common.{◌≡◌, ℕ, suc, ◌<◌, ◌≤◌, List, [], ◌∷◌, ◌++◌, Option, None, Some, option_map, unwrap_or, refl, sym, ap, ◌∙◌, subst, inl, inr, ⊎_elim, arith, nat_cmp, append_assoc}
use Rattle.std.specs.Option.{is_some}
use Rattle.std.specs.FinMap as finite
use Rattle.std.proofs.lemmas.Option.{none-some, same_Some}
use Rattle.std.proofs.lemmas.List.{append-nil}
use Rattle.ob_base.specs.Repeats.{Has}
use Rattle.ob_store.specs.Disk.{Image}
use Rattle.std.specs.Prelude.{filter}
use Rattle.ob_serial.specs.Serial.{Map, OneByOne, committed_of, is_committed, TxnRecord, EpochRecord}
use Rattle.ob_serial.proofs.Runs.{goes_on}
use Rattle.ob_serial.specs.Vaults.{VaultCall, Fetch, End, VaultAnswer, Values, Ended, RefusedBy, DoubtBy, Standing, VaultState, VaultStep, MayStand, standing_now, standing_next, with_writes}
use Rattle.ob_order.specs.Works.{last_writes}
use Rattle.ob_desk.specs.Desk.{Setup, Part, DeskState, Call, Reply, Publish, record_of, records_told}
use Rattle.ob_desk.proofs.Runs.{Good, good_new, committed_append}
use Rattle.ob_desk.proofs.Sees.{replays_from_reads}
use Rattle.ob_desk.proofs.Published.{one_by_one_from, batch_gives}
use Rattle.ob_world.specs.Courses.{Course}
use Rattle.ob_world.specs.Drivers.{DriverAt, HasTaken, HasFetched, HasClosed, HasEnded, HasDoubt, HasFailed, MovesDriver, PublishesEnded, IsInsideCall, behind_call}
use Rattle.ob_world.specs.Worlds.{WorldEvent, Desk, Vault, Report, Crash, Open, World, WorldStep, IsWorld, MayStandInside, DeskEvent, VaultEvent, ReportEvent, CrashEvent, OpenEvent, closed_records, ended_with, records_up_to}
use Rattle.ob_world.specs.Headlines.{told_since, told_behind, told_committed, acknowledged_by, acknowledged, AreUpTo, IsPrefix, published_by}
use Rattle.ob_world.proofs.Driving.{Flying, Closing, Settling, Telling, AtDriver, Stepped, desk_at, epoch_grows}
use Rattle.ob_world.proofs.Acknowledging.{AreEnded, ended_later, ended_step, ended_new, told_held}
use Rattle.ob_world.proofs.Ending.{up_to_kept, up_to_next, one_more, held_later, held_append}

module _ {Past : Type 0} (first : Map nat_cmp) where
  pub record Inv (told : List (EpochRecord ℕ)) (acked : List ℕ) (w : World Past) : Type 0 where
    pub below : Map nat_cmp  -- the map below the closed part, or with none below the running part
    pub good : Good below w.desk
    pub at_place : AtDriver below w.desk w.vault w.ended w.driver
    pub serial : OneByOne nat_cmp w.found (committed_of told) below
    pub durable : OneByOne nat_cmp first (committed_of (records_up_to w.vault.epoch w.ended)) w.vault.content
    pub doubt : (s : Standing) → w.vault.doubt ≡ Some s → (s.epoch ≡ suc w.vault.epoch) × OneByOne nat_cmp first (committed_of (records_up_to s.epoch w.ended)) s.content
    pub acked_held : AreUpTo w.vault.epoch acked
    pub clients : AreEnded w.vault.epoch w.desk.clients
    pub alike : w.vault.batches ≡ w.desk.setup.params.batches
    pub ahead : w.vault.epoch < w.desk.running.epoch
    pub doubt_ahead : (s : Standing) → w.vault.doubt ≡ Some s → s.epoch < w.desk.running.epoch

-- what the close kept leads from the map below to what the end makes durable
closing_serial : (m : Map nat_cmp) (d : DeskState) (v : VaultState) (writes : List (ℕ × Option (List ℕ))) (h : Closing m d v writes) → Good m d → OneByOne nat_cmp v.content (committed_of (record_of h.part ∷ [])) (with_writes v.content writes)
closing_serial m d v writes h good =
    let part = h.part in
    let fine = good.closed part h.is_closed in
    subst (λ (x : Map nat_cmp). OneByOne nat_cmp x (committed_of (record_of part ∷ [])) (with_writes x writes)) h.same
    (subst (λ (ts : List (TxnRecord ℕ)). OneByOne nat_cmp m (filter (λ (t : TxnRecord ℕ). is_committed t) ts) (with_writes m writes)) (sym (append-nil (record_of part).txns))
    (subst (OneByOne nat_cmp m (filter (λ (t : TxnRecord ℕ). is_committed t) (record_of part).txns))
    (sym (batch_gives m d.setup.params.keys part.order.works fine.within) ∙ ap (λ ws. with_writes m ws) (sym h.batch))
    (one_by_one_from m part.epoch 1 part.order.works part.holders fine.even (replays_from_reads m part.order.works fine.reads))))

has_last : {A : Type 0} (xs : List A) (x : A) → Has (xs ++ x ∷ []) x
has_last [] x = inl refl
has_last (y ∷ ys) x = inr (has_last ys x)

-- the records after an end that was called, the closed part known
ended_is : (d : DeskState) (v : VaultState) (rs : List (EpochRecord ℕ)) (writes : List (ℕ × Option (List ℕ))) (part : Part) → d.closed ≡ Some part → ended_with (Some (End writes)) d v rs ≡ records_up_to v.epoch rs ++ record_of part ∷ []
ended_is d v rs writes part is = ap (λ c. records_up_to v.epoch rs ++ closed_records c) is

module _ {Past : Type 0} (first : Map nat_cmp) (told : List (EpochRecord ℕ)) (acked : List ℕ) where
  -- between calls
  between : (w : World Past) → Inv first told acked w → (s : Standing) → MayStand w.vault s → IsPrefix first w.ended acked s × (w.vault.epoch ≤ s.epoch) × ((e : ℕ) → e ≤ w.vault.epoch → records_up_to e w.ended ≡ records_up_to e w.ended)
  between w h s (inl now) = subst (λ (s : Standing). IsPrefix first w.ended acked s × (w.vault.epoch ≤ s.epoch) × ((e : ℕ) → e ≤ w.vault.epoch → records_up_to e w.ended ≡ records_up_to e w.ended)) (sym now) (record { one_by_one = h.durable; holds = h.acked_held }, omega arith, λ e le. refl)
  between w h s (inr doubt) = (let next : s.epoch ≡ suc w.vault.epoch = (h.doubt s doubt).0 in (record { one_by_one = (h.doubt s doubt).1; holds = held_later w.vault.epoch s.epoch (omega (arith, next)) acked h.acked_held }, omega (arith, next), λ e le. refl))

  -- what may stand at a moment is a prefix
  pub moment : (w : World Past) → Inv first told acked w → (inside : Option VaultCall) → IsInsideCall w.driver inside → (s : Standing) → MayStandInside w.vault inside s
      → IsPrefix first (ended_with inside w.desk w.vault w.ended) acked s × (w.vault.epoch ≤ s.epoch) × ((e : ℕ) → e ≤ w.vault.epoch → records_up_to e (ended_with inside w.desk w.vault w.ended) ≡ records_up_to e w.ended)
  moment w h None turn s may = between w h s may
  moment w h (Some (Fetch keys)) turn s may = between w h s may
  moment w h (Some (End writes)) turn s may =
      let due : Closing h.below w.desk w.vault writes = subst (AtDriver h.below w.desk w.vault w.ended) turn h.at_place in
      let r : EpochRecord ℕ = record_of due.part in
      let e : ended_with (Some (End writes)) w.desk w.vault w.ended ≡ records_up_to w.vault.epoch w.ended ++ r ∷ [] = ended_is w.desk w.vault w.ended writes due.part due.is_closed in
      let kept : (e : ℕ) → e ≤ w.vault.epoch → records_up_to e (records_up_to w.vault.epoch w.ended ++ r ∷ []) ≡ records_up_to e w.ended = (λ e le. up_to_kept e w.vault.epoch w.ended r le (let up : r.epoch ≡ suc w.vault.epoch = due.epoch in omega (arith, up))) in
      let now : (s : Standing) → s ≡ standing_now w.vault → IsPrefix first (records_up_to w.vault.epoch w.ended ++ r ∷ []) acked s × (w.vault.epoch ≤ s.epoch) =
      (λ s is. subst (λ (s : Standing). IsPrefix first (records_up_to w.vault.epoch w.ended ++ r ∷ []) acked s × (w.vault.epoch ≤ s.epoch)) (sym is)
      (record { one_by_one = subst (λ (rs : List (EpochRecord ℕ)). OneByOne nat_cmp first (committed_of rs) w.vault.content) (sym (kept w.vault.epoch (omega arith))) h.durable; holds = h.acked_held }, omega arith)) in
      let next : (s : Standing) → s ≡ standing_next w.vault writes → IsPrefix first (records_up_to w.vault.epoch w.ended ++ r ∷ []) acked s × (w.vault.epoch ≤ s.epoch) =
      (λ s is. subst (λ (s : Standing). IsPrefix first (records_up_to w.vault.epoch w.ended ++ r ∷ []) acked s × (w.vault.epoch ≤ s.epoch)) (sym is) (
        record {
          one_by_one = one_more first w.vault.content (with_writes w.vault.content writes) w.vault.epoch w.ended r due.epoch h.durable (closing_serial h.below w.desk w.vault writes due h.good);
          holds = held_later w.vault.epoch (suc w.vault.epoch) (omega arith) acked h.acked_held;
        },
        omega arith,
      )) in
      let one : IsPrefix first (records_up_to w.vault.epoch w.ended ++ r ∷ []) acked s × (w.vault.epoch ≤ s.epoch) = ⊎_elim (λ m. ⊎_elim (λ is. now s is) (λ doubt. absurd (none-some s (sym due.sure ∙ doubt))) m) (λ is. next s is) may in
      subst (λ (rs : List (EpochRecord ℕ)). IsPrefix first rs acked s × (w.vault.epoch ≤ s.epoch) × ((e : ℕ) → e ≤ w.vault.epoch → records_up_to e rs ≡ records_up_to e w.ended)) (sym e) (one.0, one.1, kept)

  -- and its epoch is one that was closed
  pub stands_ahead : (w : World Past) → Inv first told acked w → (inside : Option VaultCall) → IsInsideCall w.driver inside → (s : Standing) → MayStandInside w.vault inside s → s.epoch < w.desk.running.epoch
  stands_ahead w h None turn s (inl now) = (let e : s.epoch ≡ w.vault.epoch = ap (λ x. x.epoch) now in omega (arith, e, h.ahead))
  stands_ahead w h None turn s (inr doubt) = h.doubt_ahead s doubt
  stands_ahead w h (Some (Fetch keys)) turn s (inl now) = (let e : s.epoch ≡ w.vault.epoch = ap (λ x. x.epoch) now in omega (arith, e, h.ahead))
  stands_ahead w h (Some (Fetch keys)) turn s (inr doubt) = h.doubt_ahead s doubt
  stands_ahead w h (Some (End writes)) turn s (inl (inl now)) = (let e : s.epoch ≡ w.vault.epoch = ap (λ x. x.epoch) now in omega (arith, e, h.ahead))
  stands_ahead w h (Some (End writes)) turn s (inl (inr doubt)) = h.doubt_ahead s doubt
  stands_ahead w h (Some (End writes)) turn s (inr next) =
      (let due : Closing h.below w.desk w.vault writes = subst (AtDriver h.below w.desk w.vault w.ended) turn h.at_place in
      let e : s.epoch ≡ suc w.vault.epoch = ap (λ x. x.epoch) next in omega (arith, e, due.next))

module _ (c : Course) (first : Map nat_cmp) where
  pub record Kept (told : List (EpochRecord ℕ)) (acked : List ℕ) (w : World c.Past) (e : WorldEvent) (new : World c.Past) : Type 0 where
    pub inv : Inv first (told_behind told e) (acked ++ acknowledged_by e) new
    pub among : (r : EpochRecord ℕ) → Has (published_by e) r → Has (records_up_to new.vault.epoch new.ended) r
    pub rises : w.vault.epoch ≤ new.vault.epoch
    pub same : (n : ℕ) → n ≤ w.vault.epoch → records_up_to n new.ended ≡ records_up_to n w.ended

  desk_kept : (told : List (EpochRecord ℕ)) (acked : List ℕ) (w : World c.Past) (caller : ℕ) (call : Call) (reply : Reply) (new : World c.Past) → Inv first told acked w → DeskEvent c w caller call reply new → Kept told acked w (Desk caller call reply) new
  desk_kept told acked w caller call reply new h s =
      let t : Stepped h.below w.desk s.desk w.vault w.ended reply s.driver = desk_at h.below w.desk w.vault w.ended w.driver call reply s.desk s.driver s.may s.step s.moves h.good h.at_place in
      let settles : (epoch left : ℕ) → call ≡ Publish epoch left → (part : Part) → w.desk.closed ≡ Some part → part.epoch ≤ w.vault.epoch = (λ epoch left is part closed.
      (let moves : PublishesEnded w.driver reply s.driver = subst (λ (c : Call). MovesDriver w.driver c reply s.driver) is s.moves in
      let at : Settling h.below w.desk w.vault w.ended = subst (AtDriver h.below w.desk w.vault w.ended) moves.was h.at_place in
      let one : at.part ≡ part = same_Some at.part part (sym at.is_closed ∙ closed) in
      let two : at.part.epoch ≡ part.epoch = ap (λ p. p.epoch) one in
      omega (arith, two, at.epoch))) in
      subst (Kept told acked w (Desk caller call reply)) (sym s.state) (record {
        inv = record {
          below = t.below;
          good = t.good;
          at_place = t.at_place;
          serial = subst (λ (ts : List (TxnRecord ℕ)). OneByOne nat_cmp w.found ts t.below) (sym (committed_append told (records_told reply))) (goes_on nat_cmp w.found (committed_of told) (committed_of (records_told reply)) h.below t.below h.serial t.serial);
          durable = h.durable;
          doubt = h.doubt;
          acked_held = held_append w.vault.epoch acked (told_committed call reply) h.acked_held (told_held w.vault.epoch w.desk call reply s.desk s.may s.step h.clients);
          clients = ended_step w.vault.epoch w.desk call reply s.desk s.step settles h.clients;
          alike = h.alike ∙ ap (λ (s : Setup). s.params.batches) (sym t.setup);
          ahead = omega (arith, h.ahead, epoch_grows w.desk call reply s.desk s.step);
          doubt_ahead = λ x is. (let was : x.epoch < w.desk.running.epoch = h.doubt_ahead x is in omega (arith, was, epoch_grows w.desk call reply s.desk s.step));
        };
        rises = omega arith;
        among = t.among;
        same = λ n le. refl;
      })

  -- the world after a vault call
  abbrev vault_world : World c.Past → VaultState → c.Past → DriverAt → List (EpochRecord ℕ) → World c.Past
  vault_world w vault past driver ended = record w { vault = vault; past = past; driver = driver; ended = ended }

  no_acks : (e : ℕ) (xs : List ℕ) → AreUpTo e xs → AreUpTo e (xs ++ [])
  no_acks e xs h = held_append e xs [] h tt

  -- a fetch
  fetch_kept : (told : List (EpochRecord ℕ)) (acked : List ℕ) (w : World c.Past) (keys : List (Option ℕ)) (answer : VaultAnswer) (vault : VaultState) (past : c.Past) → Inv first told acked w → w.driver ≡ HasTaken keys → VaultStep w.vault (Fetch keys) answer vault
      → Kept told acked w (Vault (Fetch keys) answer) (vault_world w vault past (behind_call (Fetch keys) answer) w.ended)
  fetch_kept told acked w keys (Values values) vault past h turn law =
      let was : Flying 1 h.below w.desk w.vault keys = subst (AtDriver h.below w.desk w.vault w.ended) turn h.at_place in
      subst (λ (v : VaultState). Kept told acked w (Vault (Fetch keys) (Values values)) (vault_world w v past (HasFetched keys values) w.ended)) (sym law.state) (record {
        inv = record {
          below = h.below;
          good = h.good;
          at_place = (
            record {
              running = record { same = was.running.same; none_closed = was.running.none_closed; epoch = was.running.epoch; left = omega (arith, was.running.left); sure = was.running.sure; unspent = was.running.unspent };
              flies = was.flies;
            },
            record { whole = law.answered.whole; at_each = λ i key there. law.answered.asked i key there ∙ ap (λ (m : Map nat_cmp). Some (finite.get m key)) (sym was.running.same) },
          );
          serial = h.serial;
          durable = h.durable;
          doubt = h.doubt;
          acked_held = no_acks w.vault.epoch acked h.acked_held;
          clients = h.clients;
          alike = h.alike;
          ahead = h.ahead;
          doubt_ahead = h.doubt_ahead;
        };
        rises = omega arith;
        among = λ r has. absurd has;
        same = λ n le. refl;
      })
  fetch_kept told acked w keys (RefusedBy f) vault past h turn law =
      let was : Flying 1 h.below w.desk w.vault keys = subst (AtDriver h.below w.desk w.vault w.ended) turn h.at_place in
      subst (λ (v : VaultState). Kept told acked w (Vault (Fetch keys) (RefusedBy f)) (vault_world w v past (HasFailed f) w.ended)) (sym law.state) (record {
        inv = record {
          below = h.below;
          good = h.good;
          at_place = tt;
          serial = h.serial;
          durable = h.durable;
          doubt = h.doubt;
          acked_held = no_acks w.vault.epoch acked h.acked_held;
          clients = h.clients;
          alike = h.alike;
          ahead = h.ahead;
          doubt_ahead = h.doubt_ahead;
        };
        rises = omega arith;
        among = λ r has. absurd has;
        same = λ n le. refl;
      })
  fetch_kept told acked w keys _ vault past h turn law = absurd law.answered

  -- an end
  end_kept : (told : List (EpochRecord ℕ)) (acked : List ℕ) (w : World c.Past) (writes : List (ℕ × Option (List ℕ))) (answer : VaultAnswer) (vault : VaultState) (past : c.Past) → Inv first told acked w → w.driver ≡ HasClosed writes → VaultStep w.vault (End writes) answer vault
      → Kept told acked w (Vault (End writes) answer) (vault_world w vault past (behind_call (End writes) answer) (ended_with (Some (End writes)) w.desk w.vault w.ended))
  end_kept told acked w writes Ended vault past h turn law =
      let due : Closing h.below w.desk w.vault writes = subst (AtDriver h.below w.desk w.vault w.ended) turn h.at_place in
      let there : OneByOne nat_cmp first (committed_of (records_up_to (suc w.vault.epoch) (ended_with (Some (End writes)) w.desk w.vault w.ended))) (with_writes w.vault.content writes) = (moment first told acked w h (Some (End writes)) turn (standing_next w.vault writes) (inr refl)).0.one_by_one in
      let kept : (e : ℕ) → e ≤ w.vault.epoch → records_up_to e (ended_with (Some (End writes)) w.desk w.vault w.ended) ≡ records_up_to e w.ended = (moment first told acked w h (Some (End writes)) turn (standing_next w.vault writes) (inr refl)).2 in
      subst (λ (v : VaultState). Kept told acked w (Vault (End writes) Ended) (vault_world w v past HasEnded (ended_with (Some (End writes)) w.desk w.vault w.ended))) (sym law.state) (record {
        inv = record {
          below = h.below;
          good = h.good;
          at_place = record {
            part = due.part;
            is_closed = due.is_closed;
            made = ap (λ o. unwrap_or (option_map (λ c. with_writes h.below (last_writes w.desk.setup.params.keys c.order.works)) o) h.below) due.is_closed ∙ (ap (λ ws. with_writes h.below ws) (sym due.batch) ∙ ap (λ (m : Map nat_cmp). with_writes m writes) due.same);
            epoch = due.epoch;
            next = due.next;
            left = h.alike ∙ sym due.left;
            filled = due.left;
            none_flies = due.none_flies;
            sure = due.sure;
            unspent = due.unspent;
            among = subst (λ (rs : List (EpochRecord ℕ)). Has rs (record_of due.part))
                (sym (up_to_next w.vault.epoch w.ended (record_of due.part) due.epoch) ∙ ap (λ rs. records_up_to (suc w.vault.epoch) rs) (sym (ended_is w.desk w.vault w.ended writes due.part due.is_closed)))
                (has_last (records_up_to w.vault.epoch w.ended) (record_of due.part));
          };
          serial = h.serial;
          durable = there;
          doubt = λ s is. absurd (none-some s (sym due.sure ∙ is));
          acked_held = no_acks (suc w.vault.epoch) acked (held_later w.vault.epoch (suc w.vault.epoch) (omega arith) acked h.acked_held);
          clients = ended_later w.vault.epoch (suc w.vault.epoch) (omega arith) w.desk.clients h.clients;
          alike = h.alike;
          ahead = omega (arith, due.next);
          doubt_ahead = λ s is. absurd (none-some s (sym due.sure ∙ is));
        };
        rises = omega arith;
        among = λ r has. absurd has;
        same = kept;
      })
  end_kept told acked w writes (RefusedBy f) vault past h turn law =
      let due : Closing h.below w.desk w.vault writes = subst (AtDriver h.below w.desk w.vault w.ended) turn h.at_place in
      let now = moment first told acked w h (Some (End writes)) turn (standing_now w.vault) (inl (inl refl)) in
      subst (λ (v : VaultState). Kept told acked w (Vault (End writes) (RefusedBy f)) (vault_world w v past (HasFailed f) (ended_with (Some (End writes)) w.desk w.vault w.ended))) (sym law.state) (record {
        inv = record {
          below = h.below;
          good = h.good;
          at_place = tt;
          serial = h.serial;
          durable = now.0.one_by_one;
          doubt = λ s is. absurd (none-some s (sym due.sure ∙ is));
          acked_held = no_acks w.vault.epoch acked h.acked_held;
          clients = h.clients;
          alike = h.alike;
          ahead = h.ahead;
          doubt_ahead = λ s is. absurd (none-some s (sym due.sure ∙ is));
        };
        rises = omega arith;
        among = λ r has. absurd has;
        same = now.2;
      })
  end_kept told acked w writes (DoubtBy f) vault past h turn law =
      let due : Closing h.below w.desk w.vault writes = subst (AtDriver h.below w.desk w.vault w.ended) turn h.at_place in
      let now = moment first told acked w h (Some (End writes)) turn (standing_now w.vault) (inl (inl refl)) in
      let next : OneByOne nat_cmp first (committed_of (records_up_to (suc w.vault.epoch) (ended_with (Some (End writes)) w.desk w.vault w.ended))) (with_writes w.vault.content writes) = (moment first told acked w h (Some (End writes)) turn (standing_next w.vault writes) (inr refl)).0.one_by_one in
      subst (λ (v : VaultState). Kept told acked w (Vault (End writes) (DoubtBy f)) (vault_world w v past (HasDoubt f) (ended_with (Some (End writes)) w.desk w.vault w.ended))) (sym law.state) (record {
        inv = record {
          below = h.below;
          good = h.good;
          at_place = record { is_closed = ap (λ o. is_some o) due.is_closed };
          serial = h.serial;
          durable = now.0.one_by_one;
          doubt = λ s is. subst (λ (s : Standing). (s.epoch ≡ suc w.vault.epoch) × OneByOne nat_cmp first (committed_of (records_up_to s.epoch (ended_with (Some (End writes)) w.desk w.vault w.ended))) s.content) (same_Some (standing_next w.vault writes) s is) (refl, next);
          acked_held = no_acks w.vault.epoch acked h.acked_held;
          clients = h.clients;
          alike = h.alike;
          ahead = h.ahead;
          doubt_ahead = λ s is. subst (λ (s : Standing). s.epoch < w.desk.running.epoch) (same_Some (standing_next w.vault writes) s is) (omega (arith, due.next));
        };
        rises = omega arith;
        among = λ r has. absurd has;
        same = now.2;
      })
  end_kept told acked w writes _ vault past h turn law = absurd law.answered

  vault_kept : (told : List (EpochRecord ℕ)) (acked : List ℕ) (w : World c.Past) (call : VaultCall) (answer : VaultAnswer) (new : World c.Past) → Inv first told acked w → VaultEvent c w call answer new → Kept told acked w (Vault call answer) new
  vault_kept told acked w (Fetch keys) answer new h s = subst (Kept told acked w (Vault (Fetch keys) answer)) (sym s.state) (fetch_kept told acked w keys answer s.vault s.past h s.was s.law)
  vault_kept told acked w (End writes) answer new h s = subst (Kept told acked w (Vault (End writes) answer)) (sym s.state) (end_kept told acked w writes answer s.vault s.past h s.was s.law)

  report_kept : (told : List (EpochRecord ℕ)) (acked : List ℕ) (w : World c.Past) (r : EpochRecord ℕ) (new : World c.Past) → Inv first told acked w → ReportEvent c w r new → Kept told acked w (Report r) new
  report_kept told acked w r new h s =
      let t : Telling h.below w.desk w.vault r = subst (AtDriver h.below w.desk w.vault w.ended) s.was h.at_place in
      subst (Kept told acked w (Report r)) (sym s.state) (record {
        inv = record {
          below = h.below;
          good = h.good;
          at_place = t.resting;
          serial = h.serial;
          durable = h.durable;
          doubt = h.doubt;
          acked_held = held_append w.vault.epoch acked (r.epoch ∷ []) h.acked_held (t.epoch, tt);
          clients = h.clients;
          alike = h.alike;
          ahead = h.ahead;
          doubt_ahead = h.doubt_ahead;
        };
        rises = omega arith;
        among = λ r has. absurd has;
        same = λ n le. refl;
      })

  crash_kept : (told : List (EpochRecord ℕ)) (acked : List ℕ) (w : World c.Past) (inside : Option VaultCall) (image : Image) (new : World c.Past) → Inv first told acked w → CrashEvent c w inside image new → Kept told acked w (Crash inside image) new
  crash_kept told acked w inside image new h s =
      let now = moment first told acked w h inside s.was s.left s.may in
      subst (Kept told acked w (Crash inside image)) (sym s.state) (record {
        inv = record {
          below = h.below;
          good = h.good;
          at_place = tt;
          serial = h.serial;
          durable = now.0.one_by_one;
          doubt = λ s is. absurd (none-some s is);
          acked_held = no_acks s.left.epoch acked now.0.holds;
          clients = ended_later w.vault.epoch s.left.epoch now.1 w.desk.clients h.clients;
          alike = h.alike;
          ahead = stands_ahead first told acked w h inside s.was s.left s.may;
          doubt_ahead = λ s is. absurd (none-some s is);
        };
        rises = now.1;
        among = λ r has. absurd has;
        same = now.2;
      })

  open_kept : (told : List (EpochRecord ℕ)) (acked : List ℕ) (w : World c.Past) (clients : List ℕ) (new : World c.Past) → Inv first told acked w → OpenEvent c w clients new → Kept told acked w (Open clients) new
  open_kept told acked w clients new h s =
      let now = moment first told acked w h None tt s.found s.may in
      subst (Kept told acked w (Open clients)) (sym s.state) (record {
        inv = record {
          below = s.found.content;
          good = good_new s.found.content w.desk.setup (suc s.found.epoch) s.left clients;
          at_place = record { running = record { same = refl; none_closed = refl; epoch = refl; left = omega arith; sure = refl; unspent = refl }; none_flies = refl };
          serial = refl;
          durable = now.0.one_by_one;
          doubt = λ s is. absurd (none-some s is);
          acked_held = no_acks s.found.epoch acked now.0.holds;
          clients = ended_new s.found.epoch clients;
          alike = h.alike;
          ahead = omega arith;
          doubt_ahead = λ s is. absurd (none-some s is);
        };
        rises = now.1;
        among = λ r has. absurd has;
        same = now.2;
      })

  pub step_kept : (told : List (EpochRecord ℕ)) (acked : List ℕ) (w : World c.Past) (e : WorldEvent) (new : World c.Past) → Inv first told acked w → WorldStep c w e new → Kept told acked w e new
  step_kept told acked w (Desk caller call reply) new h s = desk_kept told acked w caller call reply new h s
  step_kept told acked w (Vault call answer) new h s = vault_kept told acked w call answer new h s
  step_kept told acked w (Report r) new h s = report_kept told acked w r new h s
  step_kept told acked w (Crash inside image) new h s = crash_kept told acked w inside image new h s
  step_kept told acked w (Open clients) new h s = open_kept told acked w clients new h s

  -- the invariant after a list, and the records that stay
  pub record Ran (told : List (EpochRecord ℕ)) (acked : List ℕ) (w : World c.Past) (es : List WorldEvent) (last : World c.Past) : Type 0 where
    pub inv : Inv first (told_since told es) (acked ++ acknowledged es) last
    pub rises : w.vault.epoch ≤ last.vault.epoch
    pub same : (n : ℕ) → n ≤ w.vault.epoch → records_up_to n last.ended ≡ records_up_to n w.ended

  pub ran : (told : List (EpochRecord ℕ)) (acked : List ℕ) (w : World c.Past) (es : List WorldEvent) (last : World c.Past) → Inv first told acked w → IsWorld c w es last → Ran told acked w es last
  ran told acked w [] last h run = subst (Ran told acked w []) run (record {
    inv = record {
      below = h.below;
      good = h.good;
      at_place = h.at_place;
      serial = h.serial;
      durable = h.durable;
      doubt = h.doubt;
      acked_held = no_acks w.vault.epoch acked h.acked_held;
      clients = h.clients;
      alike = h.alike;
      ahead = h.ahead;
      doubt_ahead = h.doubt_ahead;
    };
    rises = omega arith;
    same = λ n le. refl;
  })
  ran told acked w (e ∷ es) last h run =
      let one : Kept told acked w e run.0 = step_kept told acked w e run.0 h run.1 in
      let rest : Ran (told_behind told e) (acked ++ acknowledged_by e) run.0 es last = ran (told_behind told e) (acked ++ acknowledged_by e) run.0 es last one.inv run.2 in
      record {
        inv = subst (λ (xs : List ℕ). Inv first (told_since (told_behind told e) es) xs last) (append_assoc acked (acknowledged_by e) (acknowledged es)) rest.inv;
        rises = omega (arith, one.rises, rest.rises);
        same = λ n le. rest.same n (omega (arith, le, one.rises)) ∙ one.same n le;
      }
