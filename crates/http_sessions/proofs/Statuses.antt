-- Statuses of refusals have three digits.
use Rattle.std.proofs.Common.{◌≡◌, inl, inr, ℕ, Bool, true, false, List, Option, Some, None, Result, Ok, Err, if◌then◌else◌, arith, refl, sym, ap, subst, ◌∙◌, bytes_eq, codes}
use Rattle.office_asks.specs.declared.ask.Ask.{Ask}
use Rattle.http.specs.StatusCode.{IsStatusCode}
use Rattle.http_wire.specs.Fields.{Pair, body_len, length_for, shared_length, one_length, values, first_of}
use Rattle.http_wire.specs.Messages.{Message, IsRefused, pairs}
use Rattle.http_wire.specs.Methods.{method_name}
use Rattle.http_asks.specs.Bodies.{ask_of}
use Rattle.http_asks.specs.Pages.{method_of, page_of}
use Rattle.http_asks.specs.Verdicts.{Verdict, refuses, asks, has_method, token_of, verdict_asked, verdict_at, verdict_of}
use Rattle.http_asks.specs.declared.pages.Page.{Page}

code_of : (m n : ℕ) → IsStatusCode m → m ≡ n → IsStatusCode n
code_of m n code e = subst IsStatusCode e code

same_err : {A : Type 0} (m n : ℕ) (r : Result A ℕ) → r ≡ Err m → r ≡ Err n → m ≡ n
same_err m n r e f = cc

err_last : {A : Type 0} (b : Bool) (x : A) (m n : ℕ) (r : Result A ℕ) → r ≡ (if b then Ok x else Err m) → r ≡ Err n → m ≡ n
err_last true x m n r e f = absurd (cc)
err_last false x m n r e f = same_err m n r e f

err_first : {A : Type 0} (b : Bool) (x : A) (m n : ℕ) (r : Result A ℕ) → r ≡ (if b then Err m else Ok x) → r ≡ Err n → m ≡ n
err_first true x m n r e f = same_err m n r e f
err_first false x m n r e f = absurd (cc)

err_400 : (first : Option (List ℕ)) (texts : List (List ℕ)) (n : ℕ) → shared_length first texts ≡ Err n → n ≡ 400
err_400 None texts n e = absurd (cc)
err_400 (Some first) texts n e = sym (err_last _ _ 400 n (shared_length (Some first) texts) refl e)

length_status : (method : List ℕ) (r : Result (Option ℕ) ℕ) (status : ℕ) → ((n : ℕ) → r ≡ Err n → n ≡ 400) → length_for method r ≡ Err status → IsStatusCode status
length_status method (Err n) status only e = code_of 400 status (omega arith, omega arith) (sym (only n refl) ∙ same_err n status (length_for method (Err n)) refl e)
length_status method (Ok None) status only e = code_of 411 status (omega arith, omega arith) (err_first _ _ 411 status (length_for method (Ok None)) refl e)
length_status method (Ok (Some n)) status only e = code_of 413 status (omega arith, omega arith) (err_first _ _ 413 status (length_for method (Ok (Some n))) refl e)

framed : (b : Bool) (r : Result ℕ ℕ) (status : ℕ) → ((s : ℕ) → r ≡ Err s → IsStatusCode s) → (if b then Err 501 else r) ≡ Err status → IsStatusCode status
framed true r status f e = code_of 501 status (omega arith, omega arith) (same_err 501 status (Err 501) refl e)
framed false r status f e = f status e

pub body_status : (method : List ℕ) (fields : List Pair) (status : ℕ) → body_len method fields ≡ Err status → IsStatusCode status
body_status method fields status e = framed _ _ status (λ s x. length_status method (one_length (values (codes "content-length") fields)) s (err_400 (first_of (values (codes "content-length") fields)) (values (codes "content-length") fields)) x) e

pub refused_status : (bytes : List ℕ) (status : ℕ) → IsRefused bytes status → IsStatusCode status
refused_status bytes status (inl long) = code_of 431 status (omega arith, omega arith) (sym long.0)
refused_status bytes status (inr (inl none)) = code_of 400 status (omega arith, omega arith) (sym none.0)
refused_status bytes status (inr (inr r)) = body_status r.1.method (pairs r.1) status r.4

with_ask : (token : Option (List ℕ)) (asked : Option Ask) (status : ℕ) (allow : Option (List ℕ)) → refuses status allow ≡ verdict_asked token asked → IsStatusCode status
with_ask token None status allow e = code_of 400 status (omega arith, omega arith) cc
with_ask token (Some ask) status allow e = absurd (cc)

at_page : (page : Page) (message : Message) (b : Bool) (status : ℕ) (allow : Option (List ℕ))
    → refuses status allow ≡ (if b then verdict_asked (token_of message) (ask_of page message.body) else refuses 405 (Some (method_name (method_of page)))) → IsStatusCode status
at_page page message true status allow e = with_ask (token_of message) (ask_of page message.body) status allow e
at_page page message false status allow e = code_of 405 status (omega arith, omega arith) cc

at_pages : (page : Option Page) (message : Message) (status : ℕ) (allow : Option (List ℕ)) → refuses status allow ≡ verdict_at page message → IsStatusCode status
at_pages None message status allow e = code_of 404 status (omega arith, omega arith) cc
at_pages (Some page) message status allow e = at_page page message (has_method page message) status allow e

pub verdict_status : (message : Message) (status : ℕ) (allow : Option (List ℕ)) → refuses status allow ≡ verdict_of message → IsStatusCode status
verdict_status message status allow e = at_pages (page_of message.target) message status allow e
