mod Arranging
mod Collecting
mod Paging
mod Shows
