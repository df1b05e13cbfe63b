use Rattle.processor_params.proofs.HeaderReader.{no_size, no_file, no_code, no_element, all_there}
use Rattle.processor_params.proofs.read_header.Goals as goal

-- each take begins where the one before left the place
pub returns-in_err-size : goal.returns-in_err-size
returns-in_err-size c = no_size c.args.bytes.now c.take_byte.new.self _ c.take_byte.ensures _ c.in_err-size.was c.from_residual.ensures

pub returns-in_err-file : goal.returns-in_err-file
returns-in_err-file c =
    no_file c.args.bytes.now c.take_byte.new.self _ c.take_byte.ensures _ c.in_ok-size.was c.take_address.new.self _ c.take_address.ensures _ c.in_err-file.was c.from_residual-in_err-file.ensures

pub returns-in_err-code : goal.returns-in_err-code
returns-in_err-code c =
    no_code c.args.bytes.now c.take_byte.new.self _ c.take_byte.ensures _ c.in_ok-size.was c.take_address.new.self _ c.take_address.ensures _ c.in_ok-file.was
    c.take_byte-2.new.self _ c.take_byte-2.ensures _ c.in_err-code.was c.from_residual-in_err-code.ensures

pub returns-in_err-element : goal.returns-in_err-element
returns-in_err-element c =
    no_element c.args.bytes.now c.take_byte.new.self _ c.take_byte.ensures _ c.in_ok-size.was c.take_address.new.self _ c.take_address.ensures _ c.in_ok-file.was
    c.take_byte-2.new.self _ c.take_byte-2.ensures _ c.in_ok-code.was c.take_address-2.new.self _ c.take_address-2.ensures _ c.in_err-element.was c.from_residual-in_err-element.ensures

pub returns : goal.returns
returns c =
    all_there c.args.bytes.now c.take_byte.new.self _ c.take_byte.ensures _ c.in_ok-size.was c.take_address.new.self _ c.take_address.ensures _ c.in_ok-file.was
    c.take_byte-2.new.self _ c.take_byte-2.ensures _ c.in_ok-code.was c.take_address-2.new.self _ c.take_address-2.ensures _ c.in_ok-element.was
