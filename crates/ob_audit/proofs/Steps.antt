-- What a reader has read, step by step.
use Rattle.std.proofs.Common.{◌≡◌, ◌≢◌, ◌≤◌, ◌<◌, ◌+◌, ◌-◌, ℕ, List, [], ◌∷◌, ◌++◌, length, take, Option, None, slice_set, refl, sym, ap, ◌∙◌, subst, inl, inr, arith, append_assoc, length-append}
use Rattle.std.specs.Global.{Box}
use Rattle.std.proofs.lemmas.List.{append-nil, length-take-le, take_more_set, length-set}
use Rattle.ob_follow.specs.declared.follow.FollowPlain.{FollowPlain}
use Rattle.ob_schedule.specs.declared.line.Line.TheVariants as L
use Rattle.ob_schedule.specs.declared.line.Wanted.TheVariants as W
use Rattle.ob_schedule.specs.Follow.{Follow}
use Rattle.ob_audit.specs.declared.reader.Reader.{Reader}
use Rattle.ob_audit.specs.declared.verdict.Audit.{Audit}
use Rattle.ob_audit.specs.declared.verdict.Audit.TheVariants.{Breaks}
use Rattle.ob_audit.specs.Traces.{lines_in, Admitted, FitsWhole, IsVerdict}
use Rattle.ob_audit.specs.Reader.{prefixed, known_behind, HasReadLines, TakesText, RefusesText, IsSettled}
use Rattle.ob_audit.proofs.Begun.{prefixed_more, prefixed_line, prefixed_last, lines_other, some_lines, one_line, taken_behind, kept_more, kept_same, none_begun, some_begun, admitted_more}

-- one byte more of the line that is begun, however much of that is kept
byte_more : (r next : Reader) (bytes : List ℕ) (b : ℕ) → b ≢ 10 → (h : HasReadLines r bytes) → next.lines ≡ r.lines → next.seen ≡ r.seen + 1 → next.known ≡ r.known → length next.begun ≡ 97 → take next.len next.begun ≡ take 97 (h.begun ++ b ∷ [])
    → HasReadLines next (bytes ++ b ∷ [])
byte_more r next bytes b other h lines seen known array kept = record {
  before = h.before;
  begun = h.begun ++ b ∷ [];
  splits = λ more. ap (λ (t : List ℕ). lines_in t) (append_assoc bytes (b ∷ []) more) ∙ h.splits (b ∷ more)
      ∙ ap (λ (t : List (List ℕ)). h.before ++ prefixed h.begun t) (lines_other b more other)
      ∙ ap (λ (t : List (List ℕ)). h.before ++ t) (sym (prefixed_more h.begun b (lines_in more)));
  counts = lines ∙ h.counts;
  seen = omega (arith, seen, h.seen, length-append bytes (b ∷ []));
  admitted = subst (λ (k : Option (Box FollowPlain)). Admitted None h.before (known_behind k)) (sym known) h.admitted;
  kept = kept;
  array = array;
}

pub pushed : (r : Reader) (bytes : List ℕ) (b : ℕ) → b ≢ 10 → r.len < 97 → HasReadLines r bytes → HasReadLines (record r { seen = r.seen + 1; begun = slice_set r.begun r.len b; len = r.len + 1 }) (bytes ++ b ∷ [])
pushed r bytes b other few h =
    let full : length (take r.len r.begun) ≡ r.len = length-take-le r.len r.begun (omega (arith, few, h.array)) in
    byte_more r (record r { seen = r.seen + 1; begun = slice_set r.begun r.len b; len = r.len + 1 }) bytes b other h refl refl refl (length-set r.begun r.len b ∙ h.array)
    (take_more_set r.begun r.len b (omega (arith, few, h.array)) ∙ kept_more (take r.len r.begun) h.begun b (omega (arith, full, few)) h.kept)

pub passed_over : (r : Reader) (bytes : List ℕ) (b : ℕ) → b ≢ 10 → r.len ≡ 97 → HasReadLines r bytes → HasReadLines (record r { seen = r.seen + 1 }) (bytes ++ b ∷ [])
passed_over r bytes b other long h =
    let full : length (take r.len r.begun) ≡ r.len = length-take-le r.len r.begun (omega (arith, long, h.array)) in
    byte_more r (record r { seen = r.seen + 1 }) bytes b other h refl refl refl h.array (kept_same (take r.len r.begun) h.begun b (full ∙ long) h.kept)

-- a line feed, and what was read before it
fed : (r : Reader) (bytes : List ℕ) (h : HasReadLines r bytes) (more : List ℕ) → lines_in ((bytes ++ 10 ∷ []) ++ more) ≡ h.before ++ h.begun ∷ lines_in more
fed r bytes h more =
    ap (λ (t : List ℕ). lines_in t) (append_assoc bytes (10 ∷ []) more) ∙ h.splits (10 ∷ more)
    ∙ ap (λ (t : List (List ℕ)). h.before ++ t) (prefixed_line h.begun (lines_in more))

pub line_taken : (r : Reader) (bytes : List ℕ) (known : Option (Box FollowPlain)) (h : HasReadLines r bytes) → TakesText (known_behind r.known) h.begun (known_behind known)
    → HasReadLines (record r { lines = r.lines + 1; seen = r.seen + 1; known = known; len = 0 }) (bytes ++ 10 ∷ [])
line_taken r bytes known h took = record {
  before = h.before ++ h.begun ∷ [];
  begun = [];
  splits = λ more. fed r bytes h more ∙ sym (append_assoc h.before (h.begun ∷ []) (lines_in more));
  counts = omega (arith, h.counts, length-append h.before (h.begun ∷ []));
  seen = omega (arith, h.seen, length-append bytes (10 ∷ []));
  admitted = admitted_more None (known_behind r.known) (known_behind known) h.before h.begun h.admitted took;
  kept = refl;
  array = h.array;
}

-- a line that is refused, with what follows it as far as the limit
refused_in : (r : Reader) (limit : ℕ) (bytes rest : List ℕ) (audit : Audit) (h : HasReadLines r bytes) → r.seen < limit → RefusesText (known_behind r.known) h.begun r.lines audit
    → IsVerdict limit ((bytes ++ 10 ∷ []) ++ rest) audit
refused_in r limit bytes rest audit h below (wanted, (found, is, of, refused)) =
    subst (λ (a : Audit). IsVerdict limit ((bytes ++ 10 ∷ []) ++ rest) a) (sym is) (record {
      before = h.before;
      text = h.begun;
      rest = lines_in rest;
      lines = fed r bytes h rest;
      counts = ap (λ (n : ℕ). n + 1) h.counts;
      known = known_behind r.known;
      admitted = h.admitted;
      breaks = inr (record {
        ends_before = λ past. some_lines rest (omega (arith, past, below, h.seen, length-append (bytes ++ 10 ∷ []) rest, length-append bytes (10 ∷ [])));
        is = of;
        refused = refused;
      });
    })

pub line_refused : (r : Reader) (limit : ℕ) (bytes : List ℕ) (audit : Audit) (h : HasReadLines r bytes) → r.seen < limit → RefusesText (known_behind r.known) h.begun r.lines audit
    → IsSettled limit (bytes ++ 10 ∷ []) audit
line_refused r limit bytes audit h below refused more =
    let e = taken_behind (bytes ++ 10 ∷ []) more (limit - length bytes) (limit + 1) (omega (arith, below, h.seen, length-append bytes (10 ∷ []))) in
    subst (λ (input : List ℕ). IsVerdict limit input audit) (sym e) (refused_in r limit bytes (take (limit - length bytes) more) audit h below refused)

-- a byte past the limit
pub limit_passed : (r : Reader) (limit : ℕ) (bytes : List ℕ) (b : ℕ) → HasReadLines r bytes → r.seen ≡ limit → IsSettled limit (bytes ++ b ∷ []) (Breaks (r.lines + 1) W.End L.Bad)
limit_passed r limit bytes b h full more =
    let e = taken_behind (bytes ++ b ∷ []) more 0 (limit + 1) (omega (arith, full, h.seen, length-append bytes (b ∷ []))) ∙ append-nil (bytes ++ b ∷ []) in
    let (text, one) = one_line h.begun b in
    subst (λ (input : List ℕ). IsVerdict limit input (Breaks (r.lines + 1) W.End L.Bad)) (sym e) (record {
      before = h.before;
      text = text;
      rest = [];
      lines = h.splits (b ∷ []) ∙ ap (λ (t : List (List ℕ)). h.before ++ t) one;
      counts = ap (λ (n : ℕ). n + 1) h.counts;
      known = known_behind r.known;
      admitted = h.admitted;
      breaks = inl (record { past = omega (arith, full, h.seen, length-append bytes (b ∷ [])); last = refl; wanted_is = refl; found_is = refl });
    })

-- ---- the end of the input

ended : (r : Reader) (bytes : List ℕ) (h : HasReadLines r bytes) → lines_in bytes ≡ h.before ++ prefixed h.begun []
ended r bytes h = ap (λ (t : List ℕ). lines_in t) (sym (append-nil bytes)) ∙ h.splits []

pub ends_whole : (r : Reader) (limit : ℕ) (bytes : List ℕ) → HasReadLines r bytes → r.len ≡ 0 → length bytes ≤ limit → FitsWhole limit bytes
ends_whole r limit bytes h none within =
    let nothing : h.begun ≡ [] = none_begun h.begun (ap (λ (n : ℕ). take n r.begun) (sym none) ∙ h.kept) in
    let lines : lines_in bytes ≡ h.before = ended r bytes h ∙ ap (λ (t : List ℕ). h.before ++ prefixed t []) nothing ∙ append-nil h.before in
    record { within = within; last = known_behind r.known; admitted = subst (λ (texts : List (List ℕ)). Admitted None texts (known_behind r.known)) (sym lines) h.admitted }

last_of : (r : Reader) (bytes : List ℕ) (h : HasReadLines r bytes) → 0 < r.len → r.len ≤ 97 → lines_in bytes ≡ h.before ++ h.begun ∷ []
last_of r bytes h some within =
    let full : length (take r.len r.begun) ≡ r.len = length-take-le r.len r.begun (omega (arith, within, h.array)) in
    ended r bytes h ∙ ap (λ (t : List (List ℕ)). h.before ++ t) (prefixed_last h.begun (some_begun (take r.len r.begun) h.begun (omega (arith, full, some)) h.kept))

pub last_taken : (r : Reader) (limit : ℕ) (bytes : List ℕ) (known : Option Follow) (h : HasReadLines r bytes) → 0 < r.len → r.len ≤ 97 → length bytes ≤ limit
    → TakesText (known_behind r.known) h.begun known → FitsWhole limit bytes
last_taken r limit bytes known h some within few took = record {
  within = few;
  last = known;
  admitted = subst (λ (texts : List (List ℕ)). Admitted None texts known) (sym (last_of r bytes h some within)) (admitted_more None (known_behind r.known) known h.before h.begun h.admitted took);
}

pub last_refused : (r : Reader) (limit : ℕ) (bytes : List ℕ) (audit : Audit) (h : HasReadLines r bytes) → 0 < r.len → r.len ≤ 97 → length bytes ≤ limit
    → RefusesText (known_behind r.known) h.begun r.lines audit → IsVerdict limit bytes audit
last_refused r limit bytes audit h some within few (wanted, (found, is, of, refused)) =
    subst (λ (a : Audit). IsVerdict limit bytes a) (sym is) (record {
      before = h.before;
      text = h.begun;
      rest = [];
      lines = last_of r bytes h some within;
      counts = ap (λ (n : ℕ). n + 1) h.counts;
      known = known_behind r.known;
      admitted = h.admitted;
      breaks = inr (record { ends_before = λ past. absurd (omega (arith, past, few)); is = of; refused = refused });
    })
