-- The records of an address and of a request. Refused: the number, and 0 for all else.
use Rattle.std.specs.Prelude.{ℕ, ◌≡◌, List, Result, Ok, Err}
use Rattle.base.specs.Refusals.{number_of}
use Rattle.base.specs.declared.refusal.Refusal.{Refusal}
use Rattle.file_type.specs.Table.{row}
use Rattle.address_spec.specs.declared.Address.{Address}
use Rattle.address_spec.specs.Spelling.{present, or_zero}
use Rattle.request_spec.specs.Request.{Asked, request_of, left}
use Rattle.link_types.specs.Types.{flag}
use Rattle.link_requests.specs.declared.requests.SlcAddress.{SlcAddress}
use Rattle.link_requests.specs.declared.requests.SlcRequest.{SlcRequest}

unfoldable pub no_address : Refusal → SlcAddress
no_address e = record {
  refused = number_of e;
  code = 0;
  file_number = 0;
  element_number = 0;
  has_position = 0;
  position = 0;
  has_sub_element = 0;
  sub_element = 0;
  bit = 0;
  element_count = 0;
  kept = 0;
}

-- the type by its code; what may be missing is 0 where it is, beside a 0, and stands beside a 1 where it isn't
unfoldable pub full_address : Address → SlcAddress
full_address x = record {
  refused = 0;
  code = (row x.file_type).code;
  file_number = x.file_number;
  element_number = x.element_number;
  has_position = flag (present x.pos_number);
  position = or_zero x.pos_number;
  has_sub_element = flag (present x.sub_element);
  sub_element = or_zero x.sub_element;
  bit = flag x.bit;
  element_count = x.element_count;
  kept = x.kept;
}

abbrev pub address_record : Result Address Refusal → SlcAddress
address_record (Err e) = no_address e
address_record (Ok x) = full_address x

abbrev pub request_record : Result (Address × ℕ) Refusal → SlcRequest
request_record (Err e) = record { address = no_address e; length = 0 }
request_record (Ok (x, n)) = record { address = full_address x; length = n }

-- what a request builder answers and leaves in the lent memory
pub record Asks (o : Asked) (l : List ℕ) (r : SlcRequest) (l' : List ℕ) : Type 0 where
  pub answer : r ≡ request_record (request_of o)
  pub memory : l' ≡ left o l
