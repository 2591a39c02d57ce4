-- What a status of 0 tells of a call whose words ask for a format or for a run.
use Rattle.std.proofs.Common.{◌≡◌, ◌∙◌, ◌⊎◌, ℕ, Bool, not, List, [], ◌∷◌, Option, None, Some, inl, inr, ap, subst, sym, arith}
use Rattle.std.specs.Borrow.{Bor}
use Rattle.std.specs.Prelude.{codes}
use Rattle.ob_base.specs.declared.fault.Fault.{Fault}
use Rattle.ob_base.specs.declared.fault.Fault.TheVariants.{BadParams, Memory}
use Rattle.ob_base.specs.declared.fault.Field.{Field}
use Rattle.ob_base.specs.declared.fault.Field.TheVariants.{LANES}
use Rattle.ob_base.specs.declared.params.Params.{Params}
use Rattle.ob_conduct.specs.declared.run_err.RunErr.{RunErr}
use Rattle.ob_conduct.specs.declared.run_err.RunErr.TheVariants as failed
use Rattle.ob_desk.specs.Beats.{BeatKind}
use Rattle.ob_report.specs.Faults.{fault_status}
use Rattle.ob_seal.specs.declared.keys.Keys.{Keys}
use Rattle.ob_serial.specs.Vaults.{Standing}
use Rattle.ob_store.specs.Disk.{Disk}
use Rattle.ob_top.proofs.Sounding.{none_told_at_0}
use Rattle.ob_top.specs.Calls.{RunCall}
use Rattle.ob_top.specs.Formats.{FormatDone}
use Rattle.ob_top.specs.Headline.{Headline, Stood}
use Rattle.ob_top.specs.Outside.{Given, IsOnlyTold, Outside, blind}
use Rattle.ob_top.specs.Parts.{Manner, manner}
use Rattle.ob_top.specs.Pasts.{PastLife}
use Rattle.ob_top.specs.Promised.{Promised}
use Rattle.ob_top.specs.Runs.{RunDone}
use Rattle.ob_vault.specs.RingLives.{ring_lives}
use Rattle.ob_top.specs.Audited.{ring_audits}
use Rattle.ob_vault.specs.RingKind.{ring_kind}
use Rattle.ob_word_forms.specs.Forms.{ArePlain, IsPlain}
use Rattle.ob_shares.specs.declared.shares.Shares.{Shares}
use Rattle.ob_words.specs.Reading.{AskedShares}
use Rattle.ob_words.specs.Work.{AreBadLanes, AreLanes, AreShares, AreParams, HasKeys, IsBadNumber, IsKeysRefused}
use Rattle.ob_life_tests.specs.Held.{HasHeadline, KeepsToHeadline}
use Rattle.ob_life_tests.specs.Lived.{HasRun, HasFormatted}

-- no fault has the status 0
no_fault_at_0 : (f : Fault) → fault_status f ≡ 0 → ⊥
no_fault_at_0 f zero = some_isnt (none_told_at_0 (Some (failed.Fault f)) zero)
  where
    some_isnt : ◌≡◌ {A = Option RunErr} (Some (failed.Fault f)) None → ⊥
    some_isnt same = cc same

module _ {S W : Type 0} (disk : S → Disk) (text : Bor (List ℕ)) (old new : S) (was is : Option W) (before after : Outside) (status : ℕ) where
  -- nothing was done, and this was told
  abbrev Tell : Fault → Type 0
  Tell f = ((new ≡ old) × (is ≡ was)) × IsOnlyTold f before after status

  abbrev KeysTell : Type 0
  KeysTell = (f : Fault) × IsKeysRefused (Some text) f × Tell f

  abbrev FormatTells : Given → List (List ℕ) → Type 0
  FormatTells tape numbers = Tell Memory ⊎ (((field : Field) × IsBadNumber numbers field × Tell (BadParams field))
      ⊎ ((p : Params) × AreParams numbers p × (KeysTell ⊎ ((keys : Keys) × HasKeys (Some text) keys × ((is ≡ was) × FormatDone ring_kind ring_lives ring_audits disk tape keys p old new before after blind blind status)))))

  abbrev RunTells : BeatKind → Given → Option (List ℕ) → Bool → AskedShares → Type 0
  RunTells beat tape lanes turns limits = Tell Memory ⊎ ((AreBadLanes lanes × Tell (BadParams LANES))
      ⊎ ((k : ℕ) × AreLanes lanes k × (shares : Shares) × AreShares limits shares × (KeysTell ⊎ ((keys : Keys) × HasKeys (Some text) keys × ((is ≡ was) × RunDone ring_kind ring_lives ring_audits disk (manner beat (not turns) k shares) tape keys old new before after blind blind status)))))

  no_keys : (A : Type 0) → KeysTell → status ≡ 0 → A
  no_keys A (f, (refused, none), (kept, told)) zero = let two : status ≡ 2 = told.status_is ∙ ap fault_status refused in absurd (omega (arith, two, zero))

  pub made : (tape : Given) (numbers : List (List ℕ)) → FormatTells tape numbers → status ≡ 0 → HasFormatted disk text.now tape old new
  made tape numbers (inl (kept, told)) zero = absurd (omega (arith, told.status_is, zero))
  made tape numbers (inr (inl (field, bad, (kept, told)))) zero = absurd (omega (arith, told.status_is, zero))
  made tape numbers (inr (inr (p, are, inl refused))) zero = no_keys (HasFormatted disk text.now tape old new) refused zero
  made tape numbers (inr (inr (p, are, inr (keys, has, (untraced, done))))) zero =
      record { keys = keys; are = has; p = p; before = before; after = after; done = subst (λ n. FormatDone ring_kind ring_lives ring_audits disk tape keys p old new before after blind blind n) zero done }

  -- the call, with this status
  abbrev called : Manner → Given → (lacks : Bool) (rose_from rose_to n : ℕ) → RunCall S
  called by tape lacks rose_from rose_to n = record { old = old; new = new; before = before; after = after; lacks_trace = lacks; traced_before = rose_from; traced_after = rose_to; by = by; tape = tape; status = n }

  -- what is promised of it over a store that stood
  abbrev IsPromised : Keys → Manner → Given → (lacks : Bool) (rose_from rose_to : ℕ) → Type 0
  IsPromised keys by tape lacks rose_from rose_to = (p : Params) (at : Standing) (past : PastLife) → Stood disk keys p at past tape old → Promised disk keys p at past (called by tape lacks rose_from rose_to status)

  -- at a status of 0 it is the headline
  held : (keys : Keys) (by : Manner) (tape : Given) (lacks : Bool) (rose_from rose_to : ℕ) → IsPromised keys by tape lacks rose_from rose_to → status ≡ 0 → KeepsToHeadline disk keys tape old new
  held keys by tape lacks rose_from rose_to promised zero p at past stood = served (promised p at past stood)
    where
      served : Promised disk keys p at past (called by tape lacks rose_from rose_to status) → HasHeadline disk keys p at past tape old new
      served (inl (run, h)) = record {
        stood = stood;
        call = called by tape lacks rose_from rose_to 0;
        run = run;
        headline = subst (λ n. Headline disk keys p at past (called by tape lacks rose_from rose_to n) run) zero h;
      }
      served (inr u) = absurd (no_fault_at_0 u.fault (sym u.status_is ∙ zero))

  pub ran : (beat : BeatKind) (tape : Given) (lanes : Option (List ℕ)) (turns : Bool) (limits : AskedShares) (lacks : Bool) (rose_from rose_to : ℕ)
      → ((k : ℕ) (shares : Shares) (keys : Keys) → AreLanes lanes k → AreShares limits shares → HasKeys (Some text) keys → IsPromised keys (manner beat (not turns) k shares) tape lacks rose_from rose_to)
      → RunTells beat tape lanes turns limits → status ≡ 0 → HasRun disk text.now tape old new
  ran beat tape lanes turns limits lacks rose_from rose_to promised (inl (kept, told)) zero = absurd (omega (arith, told.status_is, zero))
  ran beat tape lanes turns limits lacks rose_from rose_to promised (inr (inl (bad, (kept, told)))) zero = absurd (omega (arith, told.status_is, zero))
  ran beat tape lanes turns limits lacks rose_from rose_to promised (inr (inr (k, are, shares, given, inl refused))) zero = no_keys (HasRun disk text.now tape old new) refused zero
  ran beat tape lanes turns limits lacks rose_from rose_to promised (inr (inr (k, are, shares, given, inr (keys, has, (untraced, done))))) zero = record {
    keys = keys;
    are = has;
    by = manner beat (not turns) k shares;
    before = before;
    after = after;
    done = subst (λ n. RunDone ring_kind ring_lives ring_audits disk (manner beat (not turns) k shares) tape keys old new before after blind blind n) zero done;
    held = held keys (manner beat (not turns) k shares) tape lacks rose_from rose_to (promised k shares keys are given has) zero;
  }

-- ---- words

-- a word that begins otherwise than with `-`
plain : (c : ℕ) (rest : List ℕ) → (c ≡ 45 → ⊥) → IsPlain (c ∷ rest)
plain c rest other = (omega arith, other)

pub store_plain : IsPlain (codes "store")
store_plain = plain 115 (codes "tore") (λ is. omega (arith, is))

pub keys_plain : IsPlain (codes "keys")
keys_plain = plain 107 (codes "eys") (λ is. omega (arith, is))

two_plain : IsPlain (codes "2")
two_plain = plain 50 [] (λ is. omega (arith, is))

three_plain : IsPlain (codes "3")
three_plain = plain 51 [] (λ is. omega (arith, is))

eight_plain : IsPlain (codes "8")
eight_plain = plain 56 [] (λ is. omega (arith, is))

-- the words of a format of 8 keys
pub all_plain : ArePlain (codes "store" ∷ codes "keys" ∷ codes "8" ∷ codes "2" ∷ codes "2" ∷ codes "3" ∷ codes "2" ∷ codes "2" ∷ codes "2" ∷ codes "2" ∷ codes "8" ∷ [])
all_plain = (store_plain, (keys_plain, (eight_plain, (two_plain, (two_plain, (three_plain, (two_plain, (two_plain, (two_plain, (two_plain, (eight_plain, tt)))))))))))
