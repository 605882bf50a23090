-- Several facts of a value, if there is one.
use Rattle.dl_cert.proofs.Common.{Result, Ok, Err, IfOk}

pub if_ok_five : {T E : Type 0} (r : Result T E) (P Q R S U Z : T → Type 0)
    → ((x : T) → P x → Q x → R x → S x → U x → Z x) → IfOk r P → IfOk r Q → IfOk r R → IfOk r S → IfOk r U → IfOk r Z
if_ok_five (Ok x) P Q R S U Z f p q s t u = f x p q s t u
if_ok_five (Err e) P Q R S U Z f p q s t u = tt
