-- Lists of events that are no worlds: each has a step that there is not.
use Rattle.std.specs.Prelude.{ℕ, ◌≡◌, ◌≤◌, Bool, true, false, List, [], ◌∷◌, Option, None, Some}
use Rattle.std.proofs.Common.{refl, sym, ap, ◌∙◌, ⊎_elim, arith}
use Rattle.std.proofs.lemmas.Option.{none-some, same_Some}
use Rattle.std.proofs.lemmas.Bool.{false≢true}
use Rattle.ob_base.specs.declared.fault.Fault.TheVariants.{SourceFault}
use Rattle.ob_serial.specs.Vaults.{Fetch, End, Values, Ended, Standing, standing_now}
use Rattle.ob_desk.specs.Desk.{Fault, Memory, Committed, TakeBatch, Deliver, Close, Publish, Settled, Stop, Unsure, Done, Batch, Writes, Published, IsSettled}
use Rattle.ob_world.specs.Courses.{Course}
use Rattle.ob_world.specs.Drivers.{DriverAt, AtRest, HasTaken, HasFetched, HasClosed, HasEnded, HasDoubt, HasTold, HasFailed}
use Rattle.ob_world.specs.Worlds.{WorldEvent, Desk, Vault, Report, Crash, Open, World, IsWorld, first_world}
use Rattle.ob_world.specs.Headlines.{Headline}
use Rattle.ob_world.proofs.Rows.{bare, setup, at_zero, writes, keys, values, told, refusal, image_of, empty, x, v2, w3, w4, w5, w6, w7, w8, w9, w10, w11, doubtful, unsure}

-- there is no such step from this world
abbrev IsRefused : World (Unit {0}) → WorldEvent → Type 0
IsRefused w e = (last : World (Unit {0})) → IsWorld bare w (e ∷ []) last → ⊥

-- what a place holds, to tell two places apart
abbrev keys_at : DriverAt → List (Option ℕ)
keys_at (HasTaken asked) = asked
keys_at _ = []

abbrev epoch_at : DriverAt → ℕ
epoch_at (HasTold r) = r.epoch
epoch_at _ = 0

one_not_two : ◌≡◌ {A = ℕ} 1 2 → ⊥
one_not_two e = cc

pub report_before_publish : IsRefused w8 (Report told)
report_before_publish last run = (let e : HasEnded ≡ HasTold told = run.1.was in cc)

pub report_of_another : IsRefused w9 (Report (record { epoch = 2; txns = [] }))
report_of_another last run = one_not_two (ap epoch_at run.1.was)

pub second_report : IsRefused w10 (Report told)
second_report last run = (let e : AtRest ≡ HasTold told = run.1.was in cc)

pub publish_before_end : IsRefused w7 (Desk 0 (Publish 2 1) (Published told))
publish_before_end last run = (let e : HasClosed writes ≡ HasEnded = run.1.moves.was in cc)

pub publish_behind_doubt : IsRefused doubtful (Desk 0 (Publish 2 1) (Published told))
publish_behind_doubt last run = (let e : HasDoubt refusal ≡ HasEnded = run.1.moves.was in cc)

pub unsure_behind_answer : IsRefused w8 (Desk 0 (Unsure refusal) Done)
unsure_behind_answer last run = (let e : HasEnded ≡ HasDoubt refusal = run.1.moves.was in cc)

pub end_without_write : IsRefused w7 (Vault (End []) Ended)
end_without_write last run = (let e : ◌≡◌ {A = DriverAt} (HasClosed writes) (HasClosed []) = run.1.was in cc)

pub end_with_more : IsRefused w7 (Vault (End ((5, Some (7 ∷ [])) ∷ (6, None) ∷ [])) Ended)
end_with_more last run = (let e : ◌≡◌ {A = DriverAt} (HasClosed writes) (HasClosed ((5, Some (7 ∷ [])) ∷ (6, None) ∷ [])) = run.1.was in cc)

pub fetch_of_others : IsRefused w4 (Vault (Fetch (Some 3 ∷ None ∷ [])) (Values values))
fetch_of_others last run = (let e : ◌≡◌ {A = List (Option ℕ)} (None ∷ None ∷ []) (Some 3 ∷ None ∷ []) = ap keys_at run.1.was in cc)

pub fetch_not_taken : IsRefused w3 (Vault (Fetch keys) (Values values))
fetch_not_taken last run = (let e : AtRest ≡ HasTaken keys = run.1.was in cc)

pub other_value_delivered : IsRefused w5 (Desk 0 (Deliver keys (Some (9 ∷ []) ∷ None ∷ [])) Done)
other_value_delivered last run = (let e : ◌≡◌ {A = DriverAt} (HasFetched keys values) (HasFetched keys (Some (9 ∷ []) ∷ None ∷ [])) = run.1.moves.was in cc)

pub close_by_client : IsRefused w6 (Desk 1 Close (Writes writes))
close_by_client last run = ⊎_elim (λ driver. (let e : 1 ≡ 0 = driver.0 in cc)) (λ own. own) run.1.own

pub take_by_client : IsRefused w3 (Desk 1 TakeBatch (Batch keys))
take_by_client last run = ⊎_elim (λ driver. (let e : 1 ≡ 0 = driver.0 in cc)) (λ own. own) run.1.own

pub stop_by_client : IsRefused w3 (Desk 1 (Stop SourceFault) Done)
stop_by_client last run = ⊎_elim (λ driver. (let e : 1 ≡ 0 = driver.0 in cc)) (λ own. (let e : ◌≡◌ {A = Fault} SourceFault Memory = own in cc)) run.1.own

-- the driver itself may stop the desk for another fault only where no epoch is due
pub stop_while_due : IsRefused w7 (Desk 0 (Stop SourceFault) Done)
stop_while_due last run = ⊎_elim (λ memory. cc) (λ none. none) run.1.moves.may

pub crash_to_nothing : IsRefused w10 (Crash None (λ cell. []))
crash_to_nothing last run = none-some run.1.left run.1.stands

pub crash_to_other_epoch : IsRefused w10 (Crash None (image_of 2))
crash_to_other_epoch last run = ⊎_elim
    (λ (now : run.1.left ≡ standing_now v2). (let e : 2 ≡ 1 = ap (λ (at : Standing). at.epoch) (same_Some (record { epoch = 2; content = empty }) run.1.left run.1.stands ∙ now) in cc))
    (λ doubt. none-some run.1.left doubt)
    run.1.may

pub opening_elsewhere : (last : World (Unit {0})) → IsWorld bare w11 (Open (1 ∷ []) ∷ []) last → last.vault.epoch ≡ 0 → ⊥
opening_elsewhere last run is = ⊎_elim
    (λ (now : run.1.found ≡ standing_now w11.vault). (let e : 0 ≡ 1 = sym is ∙ ap (λ (w : World (Unit {0})). w.vault.epoch) (sym run.2 ∙ run.1.state) ∙ ap (λ (at : Standing). at.epoch) now in cc))
    (λ doubt. none-some run.1.found doubt)
    run.1.may

pub opening_with_more_left : (last : World (Unit {0})) → IsWorld bare w11 (Open (1 ∷ []) ∷ []) last → last.vault.left ≡ 2 → ⊥
opening_with_more_left last run is =
    (let few : run.1.left ≤ 1 = run.1.few in let e : 2 ≡ run.1.left = sym is ∙ ap (λ (w : World (Unit {0})). w.vault.left) (sym run.2 ∙ run.1.state) in omega (arith, few, e))

pub call_while_down : IsRefused w11 (Desk 1 (Settled x) (IsSettled (Some Committed)))
call_while_down last run = run.1.up

pub call_behind_refusal : IsRefused unsure (Vault (Fetch keys) (Values values))
call_behind_refusal last run = (let e : HasFailed refusal ≡ HasTaken keys = run.1.was in cc)

-- ---- a past that didn't begin well promises nothing

abbrev unsound : Course
unsound = record {
  Past = Bool;
  stands = λ past image at. Unit {0};
  called = λ old call answer new. new ≡ old;
  cut = λ old inside image new. new ≡ old;
  opened = λ old found new. new ≡ old;
  IsSound = λ past. past ≡ true;
  goes_on_called = λ old call answer new step sound. step ∙ sound;
  goes_on_cut = λ old inside image new step sound. step ∙ sound;
  goes_on_opened = λ old found new step sound. step ∙ sound;
  IsPublic = λ past. past ≡ true;
  IsFresh = λ past. past ≡ true;
  ArePadsOnce = λ past. past ≡ true;
  public = λ past sound. sound;
  fresh = λ past sound. sound;
  pads_once = λ past sound. sound;
}

abbrev began_badly : World Bool
began_badly = first_world setup (1 ∷ []) at_zero 1 false

pub soundness_is_wanted : IsWorld unsound began_badly [] began_badly × (Headline unsound began_badly [] began_badly → ⊥)
soundness_is_wanted = (refl, λ headline. false≢true headline.trace)
