-- What calls show is what the life shows.
use Rattle.std.specs.Prelude.{◌≡◌, ℕ, List, [], ◌∷◌, ◌++◌, map, length, Option, Ok}
use Rattle.std.proofs.Common.{arith, refl, subst}
use Rattle.ob_base.specs.declared.params.Params.{Params}
use Rattle.ob_fetch.specs.Fetches.{RunIsAt, next_batch}
use Rattle.ob_recover.specs.Life.{Append, LifeState, WordId, life_step}
use Rattle.ob_log.specs.Logs.{BatchRecord, RecordsFit}
use Rattle.ob_recover.proofs.Living.{lives_show_fills}
use Rattle.ob_recover.specs.Known.{fills_of, fills_with_lifts, public_of_kept}
use Rattle.ob_recover.specs.Lives.{LifeShowsFills, life_batch}
use Rattle.ob_recover.specs.Telling.{IsRowShown}
use Rattle.ob_vault.specs.RingVaults.{EndCalled, FetchCalled, HasPlanned, Running, record_of_fetch, write_from}
use Rattle.ob_schedule.specs.Phases.{batch_phases, end_phases}
use Rattle.ob_schedule.specs.Schedule.{batch_notes, end_notes}
use Rattle.ob_stand.specs.Stands.{RingStanding, with_record}
use Rattle.ob_store.specs.Disk.{Disk}
use Rattle.ob_store.specs.declared.watch.Note.{Note}
use Rattle.ob_vault.proofs.Ending.{records_fit_of}
use Rattle.ob_vault.proofs.Fetching.{life_more}
use Rattle.ob_vault.specs.Acts.{AreTapeWords, RunsInLife}

module _ {S : Type 0} (disk : S → Disk) (word_of : WordId → ℕ) (s : LifeState) (old new : Running S) (notes : List Note) where
  pub end_shows : (writes : List (ℕ × Option (List ℕ))) (runs : RunsInLife word_of s old.run (disk old.store)) → EndCalled disk old new notes (map write_from writes) (Ok tt) → HasPlanned old.run (runs.standing).content (runs.standing).records
      → let p = (old.run).params in let c = (runs.standing).content in let rs = (runs.standing).records in
      IsRowShown old.lanes (end_phases p (public_of_kept p c rs (old.run).epoch (old.run).gates) (fills_with_lifts p c rs)) (end_notes p (public_of_kept p c rs (old.run).epoch (old.run).gates) (fills_with_lifts p c rs)) notes (disk old.store).seen (disk new.store).seen × LifeShowsFills p word_of c rs s
  end_shows writes runs is planned =
      let st : RingStanding = runs.standing in
      let holds = ((runs.at).stands).holds in (
        is.scheduled st.content st.records planned,
        lives_show_fills (old.run).params word_of st.content st.records s holds.obeys (records_fit_of ((old.run).sealer).keys (old.run).params _ st.records (disk old.store).cells holds.log) runs.life,
      )

  module _ (asks : List (Option ℕ)) (runs : RunsInLife word_of s old.run (disk old.store)) (tape : AreTapeWords word_of ((old.run).sealer).generation new.drawn) (is : FetchCalled disk old new notes asks (Ok tt)) where
    abbrev st : RingStanding
    st = runs.standing

    abbrev r : BatchRecord
    r = record_of_fetch disk old new notes asks

    then : RunIsAt new.run (with_record st r) (disk new.store)
    then = is.stands st runs.at

    fit_then : RecordsFit (old.run).params (st.records ++ r ∷ [])
    fit_then = subst (λ (q : Params). RecordsFit q (st.records ++ r ∷ [])) (is.run).params
        (records_fit_of ((new.run).sealer).keys (new.run).params _ (st.records ++ r ∷ []) (disk new.store).cells ((then.stands).holds).log)

    next_is : length st.records ≡ next_batch old.run
    next_is = let all = ((runs.at).runs).left_are in omega (arith, all)

    pub fetch_shows : HasPlanned old.run st.content st.records
        → IsRowShown old.lanes (batch_phases (old.run).params (public_of_kept (old.run).params st.content st.records (old.run).epoch (old.run).gates) (fills_of (old.run).params st.content (st.records ++ r ∷ [])) (length st.records))
        (batch_notes (old.run).params (public_of_kept (old.run).params st.content st.records (old.run).epoch (old.run).gates) (fills_of (old.run).params st.content (st.records ++ r ∷ [])) (length st.records)) notes (disk old.store).seen (disk new.store).seen
        × LifeShowsFills (old.run).params word_of st.content (st.records ++ r ∷ []) (life_step (old.run).params word_of s (Append (life_batch r)))
    fetch_shows planned = (
      is.scheduled st.content st.records planned next_is,
      lives_show_fills (old.run).params word_of st.content (st.records ++ r ∷ []) (life_step (old.run).params word_of s (Append (life_batch r))) (((runs.at).stands).holds).obeys fit_then
          (life_more disk word_of s old new notes asks runs tape (is.run).was_drawn is.whole is.draws (life_step (old.run).params word_of s (Append (life_batch r))) refl refl),
    )
