use Rattle.std.proofs.Common.{◌≡◌, suc, ◌-◌, length, sym, refl, ◌∙◌, arith, length-append}
use Rattle.std.proofs.lemmas.List.{length-map}
use Rattle.buffer.proofs.Growth.{extend-some, extend-none, end_len-some}
use Rattle.buffer.proofs.write.lengthen.Goals as goal

pub overflow_add-bytes : goal.overflow_add-bytes
overflow_add-bytes c =
    let h = end_len-some c.args.tokens.now.items c.args.style c.in-Some.bytes (rw c.deref.ensures.value at c.in-Some.ensures) in
    omega arith

pub returns-then-len-most : goal.returns-then-len-most
returns-then-len-most c =
    let ts = c.args.tokens.now.items in
    let e = extend-none ts c.args.style c.args.n (rw c.deref.ensures.value at c.in-None.ensures) in
    (refl, rw e (simp (length-append, length-map) (omega (arith, c.args.tokens.now.ok.0))))

pub returns-in-Some : goal.returns-in-Some
returns-in-Some c =
    let ts = c.args.tokens.now.items in
    let h = end_len-some ts c.args.style c.in-Some.bytes (rw c.deref.ensures.value at c.in-Some.ensures) in
    let l : length ts ≡ suc (c.len-last.result - 1) = omega (arith, c.args.tokens.now.ok.0) in
    (sym (extend-some ts _ c.args.style c.in-Some.bytes c.args.n l (rw c.deref.ensures.value at c.in-Some.ensures)), refl, omega arith)

pub returns-else-len-most : goal.returns-else-len-most
returns-else-len-most c =
    let ts = c.args.tokens.now.items in
    let e = extend-none ts c.args.style c.args.n (rw c.deref.ensures.value at c.in-None.ensures) in
    (c.push_reserved.ensures.items ∙ sym e, c.push_reserved.ensures.capacity, omega arith)
