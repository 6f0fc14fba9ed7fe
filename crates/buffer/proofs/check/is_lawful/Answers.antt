use Rattle.std.proofs.Common.{◌≡◌, ◌%◌, Bool, true, ◌&&◌, length, Option, List, sym, ap, ◌∙◌, arith}
use Rattle.std.specs.List.{list_all}
use Rattle.std.proofs.lemmas.Bool.Decides.{nat_tests}
use Rattle.terms.specs.declared.text.Mark.{Mark}
use Rattle.rules.specs.Notes.{text_byte, marks_of}
use Rattle.buffer.specs.Marks.{marks_in, agreeing}
use Rattle.buffer.proofs.Fours.{marks_in-fours}
use Rattle.buffer.proofs.Lawful.{unlawful-rest, unlawful-marks, unlawful-text, lawful_few}
use Rattle.buffer.proofs.check.is_lawful.Goals as goal
use Rattle.buffer.proofs.check.is_lawful.Goals.{then-not-is_empty-via-then-not-is_empty, then-not-is_empty-via-else-not-is_empty+then-marks-gt-MOST_MARKS, then-not-is_empty-via-else-not-is_empty+else-marks-gt-MOST_MARKS+then-text-gt-MOST_TEXT}

pub returns-then-not-is_empty : goal.returns-then-not-is_empty
returns-then-not-is_empty c =
    let m = c.args.marks.now in
    let t = c.args.text.now in
    elim c.then-not-is_empty.branch [
      | then-not-is_empty-via-then-not-is_empty w ↦ unlawful-rest m t (λ e. grind (arith, nat_tests))
      | then-not-is_empty-via-else-not-is_empty+then-marks-gt-MOST_MARKS w ↦ unlawful-marks m t (omega arith)
      | then-not-is_empty-via-else-not-is_empty+else-marks-gt-MOST_MARKS+then-text-gt-MOST_TEXT w ↦ unlawful-text m t (omega arith)
    ]

pub returns-then-is_text : goal.returns-then-is_text
returns-then-is_text c =
    let m = c.args.marks.now in
    let t = c.args.text.now in
    let whole : length m % 4 ≡ 0 = grind (arith, nat_tests) in
    let read : marks_in c.as_chunks.result.0.now ≡ marks_of m = ap marks_in c.as_chunks.ensures.front ∙ marks_in-fours m whole in
    let passes : list_all text_byte t ≡ true = cc in
    c.match_text.ensures ∙ ap (λ (o : Option (List Mark)). agreeing (length t) o) read
    ∙ sym (ap (λ (u : Bool). u && agreeing (length t) (marks_of m)) passes) ∙ lawful_few m t (omega arith) whole (omega arith)

pub returns-else-is_text : goal.returns-else-is_text
returns-else-is_text c =
    let m = c.args.marks.now in
    let t = c.args.text.now in
    let passes = sym c.is_text.ensures ∙ c.if-is_text.false in
    c.if-is_text.false ∙ sym (ap (λ (u : Bool). u && agreeing (length t) (marks_of m)) passes) ∙ lawful_few m t (omega arith) (grind (arith, nat_tests)) (omega arith)
