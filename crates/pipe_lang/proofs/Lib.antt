pub mod ItemUnrolled
