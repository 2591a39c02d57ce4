-- Cells that are stamped with keys.
use Rattle.std.proofs.Common.{◌≡◌, ℕ, List, ◌++◌, take, drop, length, refl, sym, ap, ◌∙◌, arith, length-drop, length-append, Result, Ok, Err}
use Rattle.std.specs.Prelude.{IfOk, IfErr}
use Rattle.std.proofs.lemmas.List.{take_all, take_at, drop_at}
use Rattle.ob_base.specs.declared.fault.Damaged.{Damaged}
use Rattle.ob_base.specs.declared.fault.Check.TheVariants.{Tag}
use Rattle.ob_seal.specs.declared.keys.Keys.{Keys}
use Rattle.ob_seal.specs.Seals.{tag_of, stamped}
use Rattle.ob_seal.proofs.Spelling.{length-tag_of}
use Rattle.ob_seal.specs.Damage.{kept_tag, IsWrongTag}
use Rattle.ob_twin.specs.Bodies.{IsStamped, IsMisstamped}
use Rattle.ob_twin.specs.Keyed.{tagging}

pub stamped_is : (keys : Keys) (cell : ℕ) (plain : List ℕ) → stamped keys cell plain ≡ plain ++ tagging keys cell plain
unfolding stamped
stamped_is keys cell plain = refl

-- the plain bytes of a stamped cell
pub plain_is : (keys : Keys) (cell : ℕ) (bytes plain : List ℕ) → length bytes ≡ 128 → bytes ≡ stamped keys cell plain → (plain ≡ take 112 bytes) × IsStamped (tagging keys) cell bytes
unfolding stamped
plain_is keys cell bytes plain whole is =
    let tag = length-tag_of keys.tag cell plain in
    let long : length plain ≡ 112 = omega (arith, ap length is, length-append plain (tag_of keys.tag cell plain)) in
    let front : take 112 bytes ≡ plain = rw is (take_at plain (tag_of keys.tag cell plain) 112 long) in
    let back : drop 112 bytes ≡ tag_of keys.tag cell plain = rw is (drop_at plain (tag_of keys.tag cell plain) 112 long) in
    (sym front, back ∙ ap (λ (l : List ℕ). tag_of keys.tag cell l) (sym front))

-- a tag that isn't right
pub wrong_is : (keys : Keys) (cell : ℕ) (bytes : List ℕ) (d : Damaged) → length bytes ≡ 128 → IsWrongTag keys cell bytes d → IsMisstamped (tagging keys) cell bytes d
wrong_is keys cell bytes d long wrong =
    let last : kept_tag bytes ≡ drop 112 bytes = take_all 16 (drop 112 bytes) (omega (arith, length-drop 112 bytes)) in
    record {
      differs = λ right. wrong.differs (last ∙ right);
      is = wrong.told ∙ ap (λ (l : List ℕ). record { cell = cell; check = Tag; kept = l; computed = tag_of keys.tag cell (take 112 bytes) }) last;
    }

pub if_ok_so : {T E : Type 0} (P Q : T → Type 0) (r : Result T E) → ((v : T) → P v → Q v) → IfOk r P → IfOk r Q
if_ok_so P Q (Ok v) so p = so v p
if_ok_so P Q (Err e) so p = tt

pub if_err_so : {T E : Type 0} (P Q : E → Type 0) (r : Result T E) → ((e : E) → P e → Q e) → IfErr r P → IfErr r Q
if_err_so P Q (Ok v) so p = tt
if_err_so P Q (Err e) so p = so e p
