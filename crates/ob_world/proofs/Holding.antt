-- The headline over every list of events.
use Rattle.std.proofs.Common.{◌≡◌, ℕ, suc, ◌≤◌, Bool, true, false, if◌then◌else◌, List, [], ◌∷◌, ◌++◌, Option, refl, sym, ap, ◌∙◌, subst, inl, inr, ⊎_elim, arith, nat_cmp}
use Rattle.std.specs.Prelude.{nat_le}
use Rattle.std.proofs.lemmas.Bool.Decides.{nat_tests}
use Rattle.std.proofs.lemmas.Option.{none-some}
use Rattle.ob_base.specs.Repeats.{Has}
use Rattle.ob_base.proofs.Repeats.{has_cases}
use Rattle.ob_store.specs.Disk.{Image}
use Rattle.ob_serial.specs.Serial.{Map, OneByOne, committed_of, EpochRecord}
use Rattle.ob_serial.specs.Vaults.{VaultCall, Standing}
use Rattle.ob_desk.specs.Desk.{Setup}
use Rattle.ob_desk.proofs.Runs.{good_new}
use Rattle.ob_world.specs.Courses.{Course}
use Rattle.ob_world.specs.Worlds.{WorldEvent, Desk, Vault, Report, Crash, Open, World, WorldStep, IsWorld, CrashEvent, first_world, ended_with, records_up_to}
use Rattle.ob_world.specs.Headlines.{told_since, told_behind, acknowledged_by, acknowledged, IsPrefix, LeftByCrash, HeadlineHolds, published_by, published_in}
use Rattle.ob_world.proofs.Acknowledging.{ended_new}
use Rattle.ob_world.proofs.Keeping.{Inv, Kept, Ran, step_kept, ran, moment}

up_to_more : (n m : ℕ) → n ≤ m → (rs : List (EpochRecord ℕ)) (x : EpochRecord ℕ) → Has (records_up_to n rs) x → Has (records_up_to m rs) x
up_to_more n m le [] x h = h
up_to_more n m le (r ∷ rs) x h = step (nat_le r.epoch n) refl h (up_to_more n m le rs x)
  where
    later : (b : Bool) → Has (records_up_to m rs) x → Has (if b then r ∷ records_up_to m rs else records_up_to m rs) x
    later true h = inr h
    later false h = h

    step : (b : Bool) → nat_le r.epoch n ≡ b → Has (if b then r ∷ records_up_to n rs else records_up_to n rs) x → (Has (records_up_to n rs) x → Has (records_up_to m rs) x) → Has (records_up_to m (r ∷ rs)) x
    step true is (inl e) ih = subst (λ (b : Bool). Has (if b then r ∷ records_up_to m rs else records_up_to m rs) x) (let wide : true ≡ nat_le r.epoch m = grind (arith, nat_tests) in wide) (inl e)
    step true is (inr h) ih = later (nat_le r.epoch m) (ih h)
    step false is h ih = later (nat_le r.epoch m) (ih h)

module _ (c : Course) where
  -- a list of events cut in two
  pub world_split : (w : World c.Past) (xs ys : List WorldEvent) (last : World c.Past) → IsWorld c w (xs ++ ys) last → (mid : World c.Past) × IsWorld c w xs mid × IsWorld c mid ys last
  world_split w [] ys last run = (w, refl, run)
  world_split w (e ∷ xs) ys last run = (let rest = world_split run.0 xs ys last run.2 in (rest.0, (run.0, run.1, rest.1), rest.2))

  pub world_append : (w : World c.Past) (xs ys : List WorldEvent) (mid last : World c.Past) → IsWorld c w xs mid → IsWorld c mid ys last → IsWorld c w (xs ++ ys) last
  world_append w [] ys mid last one two = subst (λ (x : World c.Past). IsWorld c x ys last) (sym one) two
  world_append w (e ∷ xs) ys mid last one two = (one.0, one.1, world_append one.0 xs ys mid last one.2 two)

  -- each record published stays among the records
  pub among_all : (first : Map nat_cmp) (told : List (EpochRecord ℕ)) (acked : List ℕ) (w : World c.Past) (es : List WorldEvent) (last : World c.Past) → Inv first told acked w → IsWorld c w es last
      → (r : EpochRecord ℕ) → Has (published_in es) r → Has (records_up_to last.vault.epoch last.ended) r
  among_all first told acked w [] last h run r has = absurd has
  among_all first told acked w (e ∷ es) last h run r has =
      let one : Kept c first told acked w e run.0 = step_kept c first told acked w e run.0 h run.1 in
      let rest : Ran c first (told_behind told e) (acked ++ acknowledged_by e) run.0 es last = ran c first (told_behind told e) (acked ++ acknowledged_by e) run.0 es last one.inv run.2 in
      ⊎_elim
      (λ now. up_to_more run.0.vault.epoch last.vault.epoch rest.rises last.ended r (subst (λ (rs : List (EpochRecord ℕ)). Has rs r) (sym (rest.same run.0.vault.epoch (omega arith))) (one.among r now)))
      (λ later. among_all first (told_behind told e) (acked ++ acknowledged_by e) run.0 es last one.inv run.2 r later)
      (has_cases (published_by e) (published_in es) r has)

  -- what an image stands for goes on to be a prefix, whatever comes
  pub prefix_later : (first : Map nat_cmp) (acked : List ℕ) (rs qs : List (EpochRecord ℕ)) (s : Standing) → records_up_to s.epoch qs ≡ records_up_to s.epoch rs → IsPrefix first rs acked s → IsPrefix first qs acked s
  prefix_later first acked rs qs s same h = record { one_by_one = subst (λ (xs : List (EpochRecord ℕ)). OneByOne nat_cmp first (committed_of xs) s.content) (sym same) h.one_by_one; holds = h.holds }

  pub crash_is_prefix : (first : World c.Past) (told : List (EpochRecord ℕ)) (w : World c.Past) (before after : List WorldEvent) (inside : Option VaultCall) (image : Image) (last : World c.Past) → w ≡ first → Inv first.found told [] w → IsWorld c w (before ++ Crash inside image ∷ after) last
      → LeftByCrash c first before image last
  crash_is_prefix first told w before after inside image last is h run =
      let cut = world_split w before (Crash inside image ∷ after) last run in
      let m : Map nat_cmp = first.found in
      let there : Inv m (told_since told before) (acknowledged before) cut.0 = (ran c m told [] w before cut.0 h cut.1).inv in
      let crash : CrashEvent c cut.0 inside image cut.2.0 = cut.2.1 in
      let now = moment m (told_since told before) (acknowledged before) cut.0 there inside crash.was crash.left crash.may in
      let one : Kept c m (told_since told before) (acknowledged before) cut.0 (Crash inside image) cut.2.0 = step_kept c m (told_since told before) (acknowledged before) cut.0 (Crash inside image) cut.2.0 there crash in
      let rest : Ran c m (told_since told before) (acknowledged before ++ []) cut.2.0 after last = ran c m (told_since told before) (acknowledged before ++ []) cut.2.0 after last one.inv cut.2.2 in
      let epoch : cut.2.0.vault.epoch ≡ crash.left.epoch = ap (λ (x : World c.Past). x.vault.epoch) crash.state in
      let ended : cut.2.0.ended ≡ ended_with inside cut.0.desk cut.0.vault cut.0.ended = ap (λ (x : World c.Past). x.ended) crash.state in
      record {
        mid = cut.0;
        leads = subst (λ (x : World c.Past). IsWorld c x before cut.0) is cut.1;
        at = crash.left;
        stands = crash.stands;
        prefix = prefix_later m (acknowledged before) (ended_with inside cut.0.desk cut.0.vault cut.0.ended) last.ended crash.left
            (rest.same crash.left.epoch (omega (arith, epoch)) ∙ ap (λ rs. records_up_to crash.left.epoch rs) ended) now.0;
      }

module _ (c : Course) where
  sound_step : (w : World c.Past) (e : WorldEvent) (new : World c.Past) → WorldStep c w e new → c.IsSound w.past → c.IsSound new.past
  sound_step w (Desk caller call reply) new s h = subst (λ (x : World c.Past). c.IsSound x.past) (sym s.state) h
  sound_step w (Vault call answer) new s h = subst (λ (x : World c.Past). c.IsSound x.past) (sym s.state) (c.goes_on_called w.past call answer s.past s.called h)
  sound_step w (Report r) new s h = subst (λ (x : World c.Past). c.IsSound x.past) (sym s.state) h
  sound_step w (Crash inside image) new s h = subst (λ (x : World c.Past). c.IsSound x.past) (sym s.state) (c.goes_on_cut w.past inside image s.past s.cut h)
  sound_step w (Open clients) new s h = subst (λ (x : World c.Past). c.IsSound x.past) (sym s.state) (c.goes_on_opened w.past s.found s.past s.opened h)

  sound_all : (w : World c.Past) (es : List WorldEvent) (last : World c.Past) → IsWorld c w es last → c.IsSound w.past → c.IsSound last.past
  sound_all w [] last run h = subst (λ (x : World c.Past). c.IsSound x.past) run h
  sound_all w (e ∷ es) last run h = sound_all run.0 es last run.2 (sound_step w e run.0 run.1 h)

pub inv_first : {Past : Type 0} (setup : Setup) (clients : List ℕ) (found : Standing) (left : ℕ) (past : Past) → Inv found.content [] [] (first_world setup clients found left past)
inv_first setup clients found left past = record {
  below = found.content;
  good = good_new found.content setup (suc found.epoch) left clients;
  at_place = record { running = record { same = refl; none_closed = refl; epoch = refl; left = omega arith; sure = refl; unspent = refl }; none_flies = refl };
  serial = refl;
  durable = refl;
  doubt = λ s is. absurd (none-some s is);
  acked_held = tt;
  clients = ended_new found.epoch clients;
  alike = refl;
  ahead = omega arith;
  doubt_ahead = λ s is. absurd (none-some s is);
}

pub headline : (c : Course) → HeadlineHolds c
headline c setup clients found left past events last sound run =
    let first : World c.Past = first_world setup clients found left past in
    let h : Inv found.content [] [] first = inv_first setup clients found left past in
    let r : Ran c found.content [] [] first events last = ran c found.content [] [] first events last h run in
    let whole : c.IsSound last.past = sound_all c first events last run sound in
    record {
      serial = (r.inv.below, r.inv.serial);
      published = among_all c found.content [] [] first events last h run;
      prefix = λ inside was at may. (moment found.content (told_since [] events) (acknowledged events) last r.inv inside was at may).0;
      crashes = λ before after inside image is. crash_is_prefix c first [] first before after inside image last refl h (subst (λ (es : List WorldEvent). IsWorld c first es last) is run);
      trace = c.public last.past whole;
      fills = c.fresh last.past whole;
      pads = c.pads_once last.past whole;
    }
