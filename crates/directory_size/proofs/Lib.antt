pub mod SizeIs
