-- A runner is its script.
use Rattle.std.proofs.Common.{◌≡◌, ◌≤◌, ℕ, suc, Bool, true, false, List, [], ◌∷◌, ◌++◌, length, take, drop, Option, Some, None, refl, sym, ap, subst, ◌∙◌, append-nil}
use Rattle.std.proofs.lemmas.Bool.{false≢true}
use Rattle.std.proofs.lemmas.Option.{none-some}
use Rattle.std.proofs.lemmas.List.{take-append-drop, take_all}
use Rattle.ob_desk.specs.Desk.{Call, Reply}
use Rattle.ob_desk.specs.declared.calls.Txn.{Txn}
use Rattle.ob_session.specs.Clients.{Told, told_of, has_signed_off, was_refused}
use Rattle.ob_script.specs.Script.{ScriptTxn}
use Rattle.ob_runner.specs.declared.place.Place.{Place}
use Rattle.ob_runner.specs.declared.place.Place.TheVariants as place
use Rattle.ob_runner.specs.Meaning.{IsMeant, MeantFirst, MeantAll, MeetsFront}
use Rattle.ob_runner.specs.Places.{RunnerState, Fits, ArePast, IsCurrent, RunnerIsItsScript}
use Rattle.ob_runner.proofs.Meetings.{drop_item}
use Rattle.ob_runner.proofs.Works.{Works, works, works_waiting, works_asked, IsCommitted}

first_none : (txns : List ScriptTxn) → MeantFirst txns []
first_none [] = tt
first_none (s ∷ txns) = tt

-- those that are over are the first ones
past_first : (past rest : List ScriptTxn) (told : List Told) → ArePast past told → MeantFirst (past ++ rest) told
past_first [] rest [] over = first_none rest
past_first [] rest (u ∷ told) over = absurd over
past_first (q ∷ past) rest [] over = absurd over
past_first (q ∷ past) rest (u ∷ told) (meant, ended, over) = (meant, past_first past rest told over)

-- and the current one behind them
now_first : (past more : List ScriptTxn) (s : ScriptTxn) (told : List Told) (t : Told) → ArePast past told → IsMeant s t → MeantFirst (past ++ s ∷ more) (told ++ t ∷ [])
now_first [] more s [] t over meant = (meant, first_none more)
now_first [] more s (u ∷ told) t over meant = absurd over
now_first (q ∷ past) more s [] t over meant = absurd over
now_first (q ∷ past) more s (u ∷ told) t (first, ended, over) meant = (first, now_first past more s told t over meant)

past_all : (txns : List ScriptTxn) (told : List Told) → ArePast txns told → MeantAll txns told
past_all [] [] over = tt
past_all [] (u ∷ told) over = absurd over
past_all (q ∷ txns) [] over = absurd over
past_all (q ∷ txns) (u ∷ told) (meant, ended, over) = (meant, past_all txns told over)

-- one that goes on is meant
current_meant : (x : Txn) (waiting : Option ℕ) (s : ScriptTxn) (t : Told) → IsCurrent x waiting false t → MeetsFront s.asks t.ops → IsMeant s t
current_meant x waiting s t current front = record {
  front = front;
  committed = λ e. absurd (false≢true (sym current.asked_is ∙ e));
  asked = λ e. absurd (none-some _ (sym current.not_ended ∙ e));
}

asked_meant : (x : Txn) (s : ScriptTxn) (t : Told) → IsCurrent x None true t → MeetsFront s.asks t.ops → IsCommitted s t → IsMeant s t
asked_meant x s t current front committed = record { front = front; committed = λ e. committed; asked = λ e. absurd (none-some _ (sym current.not_ended ∙ e)) }

within_first : {x : Txn} {waiting : Option ℕ} {asked : Bool} {P : ScriptTxn → Told → Type 0} (r : RunnerState) (said : List (Call × Reply)) (w : Works r said x waiting asked P) → IsMeant w.s w.t → MeantFirst r.script (told_of said)
within_first r said w meant =
    let script_is : take r.at r.script ++ w.s ∷ drop (suc r.at) r.script ≡ r.script =
    ap (λ (rest : List ScriptTxn). take r.at r.script ++ rest) (sym (drop_item r.script r.at w.s w.txn_is)) ∙ take-append-drop r.at r.script in
    subst (λ (told : List Told). MeantFirst r.script told) (sym w.told_is)
    (subst (λ (txns : List ScriptTxn). MeantFirst txns (w.before ++ w.t ∷ [])) script_is (now_first (take r.at r.script) (drop (suc r.at) r.script) w.s w.before w.t w.past meant))

between_first : (r : RunnerState) (said : List (Call × Reply)) (fits : Fits r said) → fits.now ≡ [] → MeantFirst r.script (told_of said)
between_first r said fits none =
    let told_is : told_of said ≡ fits.before = fits.told_is ∙ ap (λ (now : List Told). fits.before ++ now) none ∙ append-nil fits.before in
    subst (λ (told : List Told). MeantFirst r.script told) (sym told_is)
    (subst (λ (txns : List ScriptTxn). MeantFirst txns fits.before) (take-append-drop r.at r.script) (past_first (take r.at r.script) (drop r.at r.script) fits.before fits.past))

over_all : (r : RunnerState) (said : List (Call × Reply)) (fits : Fits r said) → fits.now ≡ [] → length r.script ≤ r.at → MeantAll r.script (told_of said)
over_all r said fits none whole =
    let told_is : told_of said ≡ fits.before = fits.told_is ∙ ap (λ (now : List Told). fits.before ++ now) none ∙ append-nil fits.before in
    subst (λ (told : List Told). MeantAll r.script told) (sym told_is)
    (subst (λ (txns : List ScriptTxn). MeantAll txns fits.before) (take_all r.at r.script whole) (past_all (take r.at r.script) fits.before fits.past))

not_signed : {A : Type 0} (said : List (Call × Reply)) → has_signed_off said ≡ false → has_signed_off said ≡ true → A
not_signed said none now = absurd (false≢true (sym none ∙ now))

-- nothing more is asked of a transaction
anything : ScriptTxn → Told → Type 0
anything s t = Unit {0}

-- by where the runner stands
script_at : (client keys : ℕ) (script : List ScriptTxn) (at : ℕ) (p : Place) (said : List (Call × Reply)) → Fits (record { client = client; keys = keys; script = script; at = at; place = p }) said
    → MeantFirst script (told_of said) × (has_signed_off said ≡ true → was_refused said ≡ false → MeantAll script (told_of said))
unfolding anything
script_at client keys script at place.Between said fits = (between_first (record { client = client; keys = keys; script = script; at = at; place = place.Between }) said fits fits.placed, λ now all. not_signed said fits.signed_off now)
script_at client keys script at place.Stopped said fits = (between_first (record { client = client; keys = keys; script = script; at = at; place = place.Stopped }) said fits fits.placed, λ now all. not_signed said fits.signed_off now)
script_at client keys script at place.Over said fits = let r : RunnerState = record { client = client; keys = keys; script = script; at = at; place = place.Over } in
    (between_first r said fits fits.placed, λ now all. over_all r said fits fits.placed (fits.whole refl all))
script_at client keys script at (place.Next x i) said fits = let r : RunnerState = record { client = client; keys = keys; script = script; at = at; place = place.Next x i } in
    let w = works r said x anything fits refl (λ s t is placed. tt) in
    (within_first r said w (current_meant x None w.s w.t w.current w.front), λ now all. not_signed said fits.signed_off now)
script_at client keys script at (place.Adding x key sum next) said fits = let r : RunnerState = record { client = client; keys = keys; script = script; at = at; place = place.Adding x key sum next } in
    let w = works r said x anything fits refl (λ s t is placed. tt) in
    (within_first r said w (current_meant x None w.s w.t w.current w.front), λ now all. not_signed said fits.signed_off now)
script_at client keys script at (place.Waiting x read) said fits = let r : RunnerState = record { client = client; keys = keys; script = script; at = at; place = place.Waiting x read } in
    let w = works_waiting r said x read fits refl in
    (within_first r said w (current_meant x (Some read.key) w.s w.t w.current w.front), λ now all. not_signed said fits.signed_off now)
script_at client keys script at (place.Asked x) said fits = let r : RunnerState = record { client = client; keys = keys; script = script; at = at; place = place.Asked x } in
    let w = works_asked r said x fits refl in
    (within_first r said w (asked_meant x w.s w.t w.current w.front w.holds), λ now all. not_signed said fits.signed_off now)

-- the law of runners
pub is_its_script : RunnerIsItsScript
is_its_script r said fits = script_at r.client r.keys r.script r.at r.place said fits
