-- What the fields of a sheet keep, of what stands there, and that a write is refused just where it does not fit.
use Rattle.std.proofs.Common.{◌≡◌, ◌≤◌, min, true, List, length, is_ok, Ok, Err, Result, sym, ap, ◌∙◌, arith}
use Rattle.std.proofs.lemmas.Bool.{le-leb, and_from}
use Rattle.rules.specs.Content.{Content, Limits, Op, applies, fits}
use Rattle.buffer.specs.declared.sheet.Full.{Full}
use Rattle.buffer.specs.declared.sheet.Sheet.TheInside.{Inside}
use Rattle.buffer.specs.Contents.{SheetState, IsSound, Wrote}
use Rattle.buffer.specs.Sheets.{state_of, IsHeld}
use Rattle.buffer.proofs.Writing.{over-fits}

pub held_fits : (s : Inside) → IsHeld s → fits (state_of s).limits (state_of s).content ≡ true
held_fits s h =
    let a : length s.tokens.items ≤ min s.max_tokens 4096 = (omega (arith, h.few, h.limited, s.tokens.ok.0)) in
    let b : length s.bytes.items ≤ min s.max_bytes 32768 = omega (arith, h.short, h.small, s.bytes.ok.0) in
    and_from _ _ (le-leb _ _ a) (le-leb _ _ b)

pub held-sound : (s : Inside) → IsHeld s → IsSound (state_of s)
held-sound s h = record {
  adds = omega (arith, h.adds, s.bytes.ok.0);
  within = held_fits s h;
  limited = h.limited;
  small = h.small;
}

-- a write is refused just where it does not fit
pub wrote_fits : (s : SheetState) (ops : List Op) (t : SheetState) (r : Result (Unit {0}) Full) → Wrote s ops t r → IsSound t → is_ok r ≡ fits s.limits (applies s.content ops)
wrote_fits s ops t (Ok u) h k =
    sym k.within ∙ ap (λ (l : Limits). fits l t.content) h.0 ∙ ap (λ (c : Content). fits s.limits c) h.1
wrote_fits s ops t (Err e) h k = sym (over-fits s.limits (applies s.content ops) h.1)
