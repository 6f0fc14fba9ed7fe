-- The usage line of a filled book, or why there is none.
use Rattle.std.proofs.Common.{◌≡◌, ℕ, ◌-◌, List, length, Some, None, Ok, Err, Result, sym, ap, ◌∙◌}
use Rattle.rules.specs.Rejection.{Rejection}
use Rattle.rules.specs.Plain.{Plain, new}
use Rattle.rules.specs.Reading.{reading_of}
use Rattle.rules.specs.Content.{Content, Limits, line}
use Rattle.meta.specs.Rejections.{by_rule}
use Rattle.usage.specs.Calls.{usage_rule}
use Rattle.jobs.specs.Jobs.{Filled, filled, records_in, usage_line, unless_ended, last_line, line_job}

-- where no record was rejected, the line is that of the last node
last-line-is : (bench : ℕ) (l : Limits) (f : Filled) (p : Plain) (n root : ℕ) → f.rejected ≡ None → p ≡ f.left → n ≡ length p.nodes → root ≡ n - 1
    → usage_line bench l p root ≡ last_line bench l f
last-line-is bench l f p n root none left long at =
    ap (λ k. usage_line bench l p k) (at ∙ ap (λ k. k - 1) long)
    ∙ (ap (λ q. usage_line bench l q (length q.nodes - 1)) left
    ∙ sym (ap (λ o. unless_ended o (usage_line bench l f.left (length f.left.nodes - 1))) none))

-- a line that is refused
pub line_refused : (bench : ℕ) (l : Limits) (f : Filled) (p : Plain) (n root : ℕ) (e : Rejection) → f.rejected ≡ None → p ≡ f.left → n ≡ length p.nodes → root ≡ n - 1
    → usage_rule bench l p root ≡ Some e → Err e ≡ last_line bench l f
line_refused bench l f p n root e none left long at some =
    sym (ap (λ o. by_rule o (line (reading_of p root))) some) ∙ last-line-is bench l f p n root none left long at

-- a line that is written
pub line-written : (bench : ℕ) (l : Limits) (f : Filled) (p : Plain) (n root : ℕ) (x : Content) → f.rejected ≡ None → p ≡ f.left → n ≡ length p.nodes → root ≡ n - 1
    → usage_rule bench l p root ≡ None → x ≡ line (reading_of p root) → Ok x ≡ last_line bench l f
line-written bench l f p n root x none left long at whole is =
    ap Ok is ∙ (sym (ap (λ o. by_rule o (line (reading_of p root))) whole) ∙ last-line-is bench l f p n root none left long at)

-- the line of a book that was new, on the largest bench and sheet
pub line_job_lem : (marks text bytes : List ℕ) (p : Plain) (bench : ℕ) (l : Limits) (x : Result Content Rejection)
    → p ≡ new 256 marks text → bench ≡ 770 → l ≡ record { tokens = 4096; bytes = 32768 }
    → x ≡ last_line bench l (filled p (records_in bytes)) → x ≡ line_job marks text bytes
line_job_lem marks text bytes p bench l x fresh many wide is =
    is
    ∙ (ap (λ q. last_line bench l (filled q (records_in bytes))) fresh
    ∙ (ap (λ n. last_line n l (filled (new 256 marks text) (records_in bytes))) many
    ∙ ap (λ m. last_line 770 m (filled (new 256 marks text) (records_in bytes))) wide))
