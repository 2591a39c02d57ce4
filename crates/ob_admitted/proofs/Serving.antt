-- A run that served calls is a history's, and leaves what the next one finds.
use Rattle.std.specs.Prelude.{◌≡◌, ◌<◌, ◌≤◌, ℕ, Bool, List, ◌++◌, Option, Some, None, length}
use Rattle.std.proofs.Common.{suc, arith, refl, sym, ap, ◌∙◌, subst, inl, inr}
use Rattle.std.proofs.lemmas.List.{append-nil}
use Rattle.ob_base.specs.declared.params.Params.{Params}
use Rattle.ob_schedule.specs.Schedule.{Fills}
use Rattle.ob_recover.specs.Life.{WordId, LifeAct, LifeState, IsLife, formatted_life, reached}
use Rattle.ob_fresh.proofs.Publics.{open_formatted}
use Rattle.ob_serial.specs.Vaults.{End, Fetch, VaultCall}
use Rattle.ob_vault.proofs.Whole.{reached_join}
use Rattle.ob_histories.specs.Fills.{AllFills}
use Rattle.ob_histories.specs.Histories.{MayFind}
use Rattle.ob_histories.specs.Runs.{HistoryRun, run_notes}
use Rattle.ob_admitted.specs.Between.{IsFoundAsShown, MayComeNext, turn_of_run}
use Rattle.ob_admitted.specs.Cuts.{life_behind_calls, public_of_calls}
use Rattle.ob_admitted.specs.Repeats.{begin_acts}
use Rattle.ob_admitted.specs.Served.{IsRefusedFilled, IsServedLeft, ServedRunsAreShown, notes_of_refused}
use Rattle.ob_admitted.specs.Wholes.{found_of_life, notes_of_run, run_of_life}
use Rattle.ob_admitted.proofs.Betweens.{runs_leave}
use Rattle.ob_admitted.proofs.Cutting.{cut_runs_show, records_show}
use Rattle.ob_admitted.proofs.Publics.{GoesBy, formatted_goes, goes_along}
use Rattle.ob_admitted.proofs.Wholes.{runs_show}

comes_next : (p : Params) (word_of : WordId → ℕ) (f : AllFills) (s : LifeState) (refused : Option VaultCall) (c : Fills) (count : ℕ) → IsRefusedFilled p word_of f s refused c count → MayComeNext p s refused
comes_next p word_of f s None c count is = tt
comes_next p word_of f s (Some (Fetch asks)) c count (inl is) = (let life = subst (λ (xs : List LifeAct). IsLife p word_of s xs) is.cut.shows.2 is.cut.is_life in life.0.0)
comes_next p word_of f s (Some (Fetch asks)) c count (inr alone) = alone.0
comes_next p word_of f s (Some (End writes)) c count (inl is) = (let life = subst (λ (xs : List LifeAct). IsLife p word_of s xs) is.cut.shows is.cut.is_life in life.0.0)
comes_next p word_of f s (Some (End writes)) c count (inr alone) = absurd alone

pub served : ServedRunsAreShown
served p word_of slot before f ranked life ends whole filled found notes is =
    let some : 0 < p.dummies = (let one = p.in_range.some_dummies in omega (arith, one)) in
    let s : LifeState = reached p word_of (formatted_life slot) before in
    let goes : GoesBy p word_of f s = goes_along p word_of f some (formatted_life slot) before life ends whole (open_formatted p word_of some slot ranked) (formatted_goes p word_of f slot) filled.leaves in
    let run : HistoryRun = record (run_of_life p s found is.steps) { shown = is.count } in (
      record { run = run; alone = refl; finds = refl; shows = shows is.refused is.cut is.shown },
      λ acts next left. leaves goes.room acts next left,
    )
  where
    leaves : length (reached p word_of (formatted_life slot) before).log ≤ p.batches → (acts : List LifeAct) (next : ℕ → Bool) → IsServedLeft p word_of f (reached p word_of (formatted_life slot) before) found notes is acts next
        → MayFind p f (Some (record (run_of_life p (reached p word_of (formatted_life slot) before) found is.steps) { shown = is.count })) (found_of_life p (reached p word_of (reached p word_of (formatted_life slot) before) acts) next)
    leaves room acts next left =
        let s : LifeState = reached p word_of (formatted_life slot) before in
        let t : LifeState = life_behind_calls p word_of s is.made in
        let there : reached p word_of s acts ≡ reached p word_of t left.more =
        ap (λ (xs : List LifeAct). reached p word_of s xs) left.acts_are ∙ reached_join p word_of s (begin_acts s (suc s.generation) ++ is.made) left.more
        ∙ ap (λ (u : LifeState). reached p word_of u left.more) (reached_join p word_of s (begin_acts s (suc s.generation)) is.made) in
        let run : HistoryRun = record (run_of_life p s found is.steps) { shown = is.count } in
        let found_then : MayFind p f (Some run) (found_of_life p (reached p word_of t left.more) next) =
        runs_leave p word_of f s found next is.calls is.steps is.made room is.filled.life is.filled.shown is.refused is.count left.more (comes_next p word_of f t is.refused is.drawn is.count is.cut) left.left
        (ap (λ (u : LifeState). (found_of_life p u next).generation_gate) (sym there) ∙ left.stays)
        (subst (λ (u : LifeState). IsFoundAsShown p f (turn_of_run p s found is.steps) is.refused is.count (found_of_life p u next)) there left.as_shown) in
        subst (λ (u : LifeState). MayFind p f (Some run) (found_of_life p u next)) (sym there) found_then

    shows : (refused : Option VaultCall) → IsRefusedFilled p word_of f (life_behind_calls p word_of (reached p word_of (formatted_life slot) before) is.made) refused is.drawn is.count
        → notes ≡ notes_of_run p word_of (reached p word_of (formatted_life slot) before) is.opening found is.gates is.steps ++ notes_of_refused p (public_of_calls p word_of (reached p word_of (formatted_life slot) before) is.gates is.steps) refused is.drawn is.count
        → notes ≡ run_notes p f (record (run_of_life p (reached p word_of (formatted_life slot) before) found is.steps) { shown = is.count })
    shows None cut shown =
        shown ∙ append-nil (notes_of_run p word_of (reached p word_of (formatted_life slot) before) is.opening found is.gates is.steps) ∙ runs_show p word_of slot before f ranked life ends whole filled is.opening found is.gates is.calls is.steps is.made is.kept is.filled
        ∙ ap (λ (n : ℕ). run_notes p f (record (run_of_life p (reached p word_of (formatted_life slot) before) found is.steps) { shown = n })) (sym cut)
    shows (Some call) (inl cut) shown = shown ∙ cut_runs_show p word_of slot before f ranked life ends whole filled is.opening found is.gates is.calls is.steps is.made is.kept is.filled call is.drawn is.count cut
    shows (Some (Fetch asks)) (inr alone) shown = shown ∙ records_show p word_of slot before f ranked life ends whole filled is.opening found is.gates is.calls is.steps is.made is.kept is.filled asks is.drawn is.count alone
    shows (Some (End writes)) (inr alone) shown = absurd alone
