-- The course of a store: its past, what each kind of step adds to it, and what is promised of every past.
use Rattle.std.specs.Prelude.{◌≡◌, Option}
use Rattle.ob_store.specs.Disk.{Image}
use Rattle.ob_serial.specs.Vaults.{VaultCall, VaultAnswer, VaultState, Standing, standing_now}
use Rattle.ob_serial.specs.VaultKinds.{Kind, Called}

-- What a vault's steps add to the past of its store, and what that promises.
pub record Course : Type 1 where
  pub Past : Type 0
  -- what an image stands for, by the past that it was left behind
  pub stands : Past → Image → Standing → Type 0
  -- a call was answered; a crash, between calls or inside one, left an image; an opening found a standing
  pub called : Past → VaultCall → VaultAnswer → Past → Type 0
  pub cut : Past → Option VaultCall → Image → Past → Type 0
  pub opened : Past → Standing → Past → Type 0
  -- a past that began well goes on so,
  pub IsSound : Past → Type 0
  pub goes_on_called : (old : Past) (call : VaultCall) (answer : VaultAnswer) (new : Past) → called old call answer new → IsSound old → IsSound new
  pub goes_on_cut : (old : Past) (inside : Option VaultCall) (image : Image) (new : Past) → cut old inside image new → IsSound old → IsSound new
  pub goes_on_opened : (old : Past) (found : Standing) (new : Past) → opened old found new → IsSound old → IsSound new
  -- and then its events are public, each hole was filled once, and no pad was used twice
  pub IsPublic : Past → Type 0
  pub IsFresh : Past → Type 0
  pub ArePadsOnce : Past → Type 0
  pub public : (past : Past) → IsSound past → IsPublic past
  pub fresh : (past : Past) → IsSound past → IsFresh past
  pub pads_once : (past : Past) → IsSound past → ArePadsOnce past

-- the vault that an opening gives holds what was found
abbrev pub IsOpenedVault : {V : Type 0} → Kind V → Standing → V → Type 0
IsOpenedVault k found new = (v : VaultState) × k.holds new v × (standing_now v ≡ found)

-- The course of any vault: its past is the vault itself, and nothing is promised of it.
abbrev pub course_of : {V : Type 0} → Kind V → Course
course_of {V} k = record {
  Past = V;
  stands = k.stands;
  called = λ old call answer new. Called k old call answer new;
  cut = λ old inside image new. new ≡ old;
  opened = λ old found new. IsOpenedVault k found new;
  IsSound = λ past. Unit {0};
  goes_on_called = λ old call answer new step sound. sound;
  goes_on_cut = λ old inside image new step sound. sound;
  goes_on_opened = λ old found new step sound. sound;
  IsPublic = λ past. Unit {0};
  IsFresh = λ past. Unit {0};
  ArePadsOnce = λ past. Unit {0};
  public = λ past sound. sound;
  fresh = λ past sound. sound;
  pads_once = λ past sound. sound;
}
