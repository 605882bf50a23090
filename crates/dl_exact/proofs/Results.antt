-- What holds of a call's value, by three facts that hold of it.
use Rattle.dl_exact.proofs.Common.{Result, Ok, Err, IfOk}

pub if_ok_three : {T E : Type 0} (r : Result T E) (P Q R Z : T → Type 0) → ((x : T) → P x → Q x → R x → Z x) → IfOk r P
    → IfOk r Q → IfOk r R → IfOk r Z
if_ok_three (Ok x) P Q R Z f p q s = f x p q s
if_ok_three (Err e) P Q R Z f p q s = tt

pub if_ok_two : {T E : Type 0} (r : Result T E) (P Q Z : T → Type 0) → ((x : T) → P x → Q x → Z x) → IfOk r P
    → IfOk r Q → IfOk r Z
if_ok_two (Ok x) P Q Z f p q = f x p q
if_ok_two (Err e) P Q Z f p q = tt
